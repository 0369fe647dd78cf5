use Rattle.std.proofs.Common.{◌∙◌, ℕ, sym, ap}
use Rattle.std.specs.List.{find}
use Rattle.std.specs.Option.{option_map_or}
use Rattle.volume_terms.specs.Sizes.{root_number}
use Rattle.posix_profile.specs.Names.{has_entry_to}
use Rattle.plain_volume.specs.declared.state.object.PlainObject.{PlainObject}
use Rattle.plain_volume.specs.PlainState.{object_of}
use Rattle.plain_volume.proofs.Counts.{parent_entries}
use Rattle.plain_volume.proofs.state.links.parent.Goals as goal

pub loop-directory-init : goal.loop-directory-init
loop-directory-init c =
    ap (λ es. option_map_or (λ (e : ℕ × PlainObject). e.0) (find (λ (e : ℕ × PlainObject). has_entry_to c.args.number (object_of e.1)) es) root_number) (c.into_iter-directory-iterator.ensures.into_iter_gives ∙ c.iter-directory-items.ensures.rest)
    ∙ sym (parent_entries c.args.objects.now c.args.number c.iter-directory-items.ensures.ordered)
