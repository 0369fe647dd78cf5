use Rattle.std.proofs.Common.{drop}
use Rattle.tree_walk.proofs.Putting.{IsPutting}
use Rattle.tree_walk.proofs.walking.WalkState.put_all.Given as goal

abbrev pub invariant-loop-place : goal.invariant-loop-place
invariant-loop-place l = IsPutting l.fn.self l.named l.self (drop l.place l.named)
