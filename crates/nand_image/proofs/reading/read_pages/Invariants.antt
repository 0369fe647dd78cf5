use Rattle.std.proofs.Common.{◌≡◌}
use Rattle.nand_model.specs.MemoryState.{device, plan}
use Rattle.nand_image.specs.Readings.{PutsPages, TakesPages}
use Rattle.nand_image.proofs.reading.read_pages.Given as goal

-- the pages before this place are read
abbrev pub invariant-loop-place : goal.invariant-loop-place
invariant-loop-place g l = record {
  puts : PutsPages (device l.initial.memory) (device l.memory);
  plan : plan l.memory ≡ plan l.initial.memory;
  pages : TakesPages (g.F.Read.remaining l.initial.file) (g.F.Read.remaining l.file) l.initial.memory.geometry.bytes l.initial.memory.geometry.pages l.place (device l.memory).flash.page;
}
