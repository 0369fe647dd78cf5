use Rattle.std.proofs.Common.{◌≡◌, length}
use Rattle.nand_model.specs.Changes.{OnlyReads}
use Rattle.chip_map.proofs.dump.write_block.Given as goal

abbrev pub invariant-loop-page : goal.invariant-loop-page
invariant-loop-page g l = record {
  read : OnlyReads (g.N.Nand.state l.fn.device) (g.N.Nand.state l.device);
  size : length l.bytes ≡ (g.N.Nand.state l.device).geometry.bytes;
}
