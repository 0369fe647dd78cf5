use Rattle.std.proofs.Common.{◌≡◌, take}
use Rattle.nand_model.specs.Plans.{listed}
use Rattle.powercut.proofs.power.copy_failures.Given as goal

-- so many are copied
abbrev pub invariant-loop-call : goal.invariant-loop-call
invariant-loop-call l = listed l.copy.items ≡ listed (take l.call-index l.failures)
