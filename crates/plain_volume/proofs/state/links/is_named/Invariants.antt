use Rattle.std.proofs.Common.{◌≡◌}
use Rattle.std.specs.List.{list_any}
use Rattle.posix_profile.specs.Names.{has_entry_to, is_named}
use Rattle.plain_volume.specs.PlainState.{object_of, objects_in}
use Rattle.plain_volume.proofs.state.links.is_named.Given as goal

abbrev pub invariant-loop-object : goal.invariant-loop-object
invariant-loop-object l = list_any (λ x. has_entry_to l.number (object_of x)) l.object-iterator ≡ is_named (objects_in l.fn.objects) l.fn.number
