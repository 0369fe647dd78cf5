use Rattle.std.proofs.Common.{◌∙◌, nat_eq, sym, ap}
use Rattle.std.specs.List.{list_any}
use Rattle.posix_profile.specs.Names.{has_entry_to}
use Rattle.plain_volume.specs.PlainState.{object_of}
use Rattle.plain_volume.proofs.Counts.{entry_values}
use Rattle.plain_volume.proofs.state.links.has_entry_to.Goals as goal

pub loop-child-init : goal.loop-child-init
loop-child-init c =
    ap (list_any (nat_eq c.args.number)) (c.into_iter-child-iterator.ensures.into_iter_gives ∙ c.values-child-items.ensures.rest)
    ∙ sym (entry_values c.in-Directory.entries c.args.number c.values-child-items.ensures.ordered)
    ∙ ap (λ x. has_entry_to c.args.number (object_of x)) (sym c.in-Directory.is)
