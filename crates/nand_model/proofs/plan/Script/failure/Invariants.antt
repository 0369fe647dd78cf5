use Rattle.std.proofs.Common.{◌≡◌, drop}
use Rattle.nand_model.specs.Plans.{failure_at, listed}
use Rattle.nand_model.proofs.plan.Script.failure.Given as goal

-- no failure before this place is at the call
abbrev pub invariant-loop-call : goal.invariant-loop-call
invariant-loop-call l = failure_at (listed (drop l.call-index l.self.failures.items)) l.self.calls ≡ failure_at (listed l.self.failures.items) l.self.calls
