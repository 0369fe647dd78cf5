use Rattle.std.proofs.Common.{◌≡◌}
use Rattle.nand_model.specs.MemoryState.{device, plan}
use Rattle.nand_image.specs.Readings.{PutsMarks}
use Rattle.nand_image.proofs.reading.put_marks.Given as goal

-- the marks of the blocks before this one are set
abbrev pub invariant-loop-block : goal.invariant-loop-block
invariant-loop-block l = record {
  puts : PutsMarks l.marks l.block (device l.initial.memory) (device l.memory);
  plan : plan l.memory ≡ plan l.initial.memory;
}
