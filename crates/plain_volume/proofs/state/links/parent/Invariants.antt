use Rattle.std.proofs.Common.{◌≡◌}
use Rattle.std.specs.List.{find}
use Rattle.std.specs.Option.{option_map_or}
use Rattle.volume_terms.specs.Sizes.{root_number}
use Rattle.posix_profile.specs.Names.{has_entry_to, parent}
use Rattle.plain_volume.specs.PlainState.{object_of, objects_in}
use Rattle.plain_volume.proofs.state.links.parent.Given as goal

abbrev pub invariant-loop-directory : goal.invariant-loop-directory
invariant-loop-directory l = option_map_or (λ e. e.0) (find (λ e. has_entry_to l.number (object_of e.1)) l.directory-iterator) root_number ≡ parent (objects_in l.fn.objects) l.fn.number
