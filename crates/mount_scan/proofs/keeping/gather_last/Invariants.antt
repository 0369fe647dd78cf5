use Rattle.mount_scan.specs.Keys.{Gathers}
use Rattle.mount_scan.proofs.keeping.gather_last.Given as goal

abbrev pub invariant-loop-i : goal.invariant-loop-i
invariant-loop-i l = Gathers l.fn.sorted.items l.i l.sorted.items l.committed
