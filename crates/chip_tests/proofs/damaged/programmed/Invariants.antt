use Rattle.std.proofs.Common.{◌≡◌, Some}
use Rattle.nand_model.specs.MemoryState.{device}
use Rattle.chip_tests.proofs.damaged.programmed.Given as goal

abbrev pub invariant-loop-place : goal.invariant-loop-place
invariant-loop-place g l = (device l.nand).flash.next 0 ≡ Some l.place
