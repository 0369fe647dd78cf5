use Rattle.std.proofs.Common.{◌≡◌, ◌≤◌, take}
use Rattle.posix_profile.specs.Losses.{Covers}
use Rattle.plain_volume.specs.Lists.{Lists}
use Rattle.exerciser.specs.Keeping.{after_all_reported}
use Rattle.exerciser.proofs.Following.{NoneBelow}
use Rattle.exerciser.proofs.keeping.least_committed.Given as goal

-- so many commands are done, no fewer than a done sync covers, and the list is of no tree after fewer
abbrev pub invariant-loop-done : goal.invariant-loop-done
invariant-loop-done l = record {
  sizes : l.tree.sizes ≡ l.before.sizes;
  read_only : l.tree.read_only ≡ l.before.read_only;
  state : l.done ≤ l.answered → l.tree.state ≡ after_all_reported l.before.sizes l.before.read_only l.before.state l.script (take l.done l.replies);
  covers : Covers l.script l.replies l.covered;
  least : l.covered ≤ l.done;
  none : NoneBelow l.before l.script l.replies (Lists l.list) l.done;
}
