use Rattle.std.proofs.Common.{◌≡◌, take}
use Rattle.exerciser.specs.Keeping.{after_all_reported}
use Rattle.exerciser.proofs.keeping.follow_first.Given as goal

-- so many commands are done, and the sizes stay, and whether it can only be read
abbrev pub invariant-loop-place : goal.invariant-loop-place
invariant-loop-place l = record {
  sizes : l.tree.sizes ≡ l.initial.tree.sizes;
  read_only : l.tree.read_only ≡ l.initial.tree.read_only;
  state : l.tree.state ≡ after_all_reported l.initial.tree.sizes l.initial.tree.read_only l.initial.tree.state l.script (take l.place l.replies);
}
