use Rattle.flash_tree.specs.Places.{numbers_of}
use Rattle.mount_scan.specs.Blocks.{AreRaisedBy}
use Rattle.mount_scan.proofs.raise.raised_by.Given as goal

abbrev pub invariant-loop-i : goal.invariant-loop-i
invariant-loop-i l = AreRaisedBy l.tags l.i (numbers_of l.fn.numbers) (numbers_of l.raised)
