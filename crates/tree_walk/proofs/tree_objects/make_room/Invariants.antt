use Rattle.std.proofs.Common.{◌≡◌}
use Rattle.posix_profile.specs.State.{Objects}
use Rattle.object_store.specs.Built.{sizes_built, Builds}
use Rattle.tree_walk.proofs.tree_objects.make_room.Given as goal

abbrev pub invariant-loop-place : goal.invariant-loop-place
invariant-loop-place l = record {
  size : sizes_built l.builder ≡ sizes_built l.fn.builder;
  same : (objects : Objects) → Builds l.fn.builder objects → Builds l.builder objects;
}
