use Rattle.std.proofs.Common.{◌≡◌, ◌<◌, ◌+◌, ◌^◌, length, count_by}
use Rattle.std.specs.FinMap as map
use Rattle.posix_profile.specs.State.{is_directory}
use Rattle.name_map.specs.NameEntries.{entries_in}
use Rattle.plain_volume.specs.PlainState.{objects_in}
use Rattle.plain_volume.proofs.Counts.{count_left}
use Rattle.plain_volume.proofs.state.links.subdirectories.Given as goal

abbrev pub invariant-loop-child : goal.invariant-loop-child
invariant-loop-child l = record {
  small : l.count + length l.child-iterator < 2 ^ 63;
  reported : l.count + count_left (λ child. is_directory (map.get (objects_in l.objects) child)) l.child-iterator
      ≡ count_by (λ child. is_directory (map.get (objects_in l.fn.objects) child)) (map.values (entries_in l.fn.entries));
}
