use Rattle.std.proofs.Common.{◌≡◌, ◌<◌, ◌+◌, ◌^◌, length, nat_eq}
use Rattle.posix_profile.specs.Names.{names_to}
use Rattle.plain_volume.specs.PlainState.{object_of}
use Rattle.plain_volume.proofs.Counts.{count_left}
use Rattle.plain_volume.proofs.state.links.names_to.Given as goal

abbrev pub invariant-loop-child : goal.invariant-loop-child
invariant-loop-child l = record {
  small : l.count + length l.child-iterator < 2 ^ 63;
  reported : l.count + count_left (nat_eq l.number) l.child-iterator ≡ length (names_to l.fn.number (object_of l.fn.object));
}
