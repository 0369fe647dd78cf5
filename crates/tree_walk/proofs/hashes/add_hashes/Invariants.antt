use Rattle.tree_walk.specs.Hashes.{Keeps, HoldsEach}
use Rattle.tree_walk.proofs.hashes.add_hashes.Given as goal

abbrev pub invariant-loop-place : goal.invariant-loop-place
invariant-loop-place l = record {
  keeps : Keeps l.fn.names l.names;
  there : HoldsEach l.names l.directory l.place l.hashes;
}
