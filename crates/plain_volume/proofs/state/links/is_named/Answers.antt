use Rattle.std.proofs.Common.{◌∙◌, sym, ap}
use Rattle.std.specs.List.{list_any}
use Rattle.posix_profile.specs.Names.{has_entry_to}
use Rattle.plain_volume.specs.PlainState.{object_of}
use Rattle.plain_volume.proofs.Counts.{named_values}
use Rattle.plain_volume.proofs.state.links.is_named.Goals as goal

pub loop-object-init : goal.loop-object-init
loop-object-init c =
    ap (list_any (λ x. has_entry_to c.args.number (object_of x))) (c.into_iter-object-iterator.ensures.into_iter_gives ∙ c.values-object-items.ensures.rest)
    ∙ sym (named_values c.args.objects.now c.args.number c.values-object-items.ensures.ordered)
