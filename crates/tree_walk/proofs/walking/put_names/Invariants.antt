use Rattle.std.proofs.Common.{◌≡◌, ◌++◌, take}
use Rattle.tree_walk.specs.Trees.{named_in}
use Rattle.tree_walk.proofs.walking.put_names.Given as goal

abbrev pub invariant-loop-place : goal.invariant-loop-place
invariant-loop-place l = l.names.items ≡ l.fn.names.items ++ named_in l.directory (take l.place l.named)
