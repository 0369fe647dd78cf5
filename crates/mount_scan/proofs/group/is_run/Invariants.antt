use Rattle.std.proofs.Common.{◌<◌, ℕ}
use Rattle.mount_scan.specs.Runs.{IsPartOf}
use Rattle.mount_scan.proofs.group.is_run.Given as goal

abbrev pub invariant-loop-i : goal.invariant-loop-i
invariant-loop-i l = (k : ℕ) → k < l.i → IsPartOf l.tags l.start l.first k
