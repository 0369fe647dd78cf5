use Rattle.std.proofs.Common.{◌≡◌, nat_eq}
use Rattle.std.specs.List.{list_any}
use Rattle.posix_profile.specs.Names.{has_entry_to}
use Rattle.plain_volume.specs.PlainState.{object_of}
use Rattle.plain_volume.proofs.state.links.has_entry_to.Given as goal

abbrev pub invariant-loop-child : goal.invariant-loop-child
invariant-loop-child l = list_any (nat_eq l.number) l.child-iterator ≡ has_entry_to l.fn.number (object_of l.fn.object)
