use Rattle.std.proofs.Common.{◌≡◌, ◌+◌, ◌*◌, true, length}
use Rattle.chip_map.specs.Valid.{AreNoted}
use Rattle.chip_map.proofs.Adding.{HasPower}
use Rattle.chip_map.proofs.reading.read_block.Given as goal

abbrev pub invariant-loop-page : goal.invariant-loop-page
invariant-loop-page g l = record {
  read : HasPower (g.N.Nand.state l.fn.device) (g.N.Nand.state l.device);
  len : length l.pages.items ≡ l.block * (g.N.Nand.state l.fn.device).geometry.pages + l.page;
  noted : (g.N.Nand.state l.fn.device).honest ≡ true → AreNoted (g.N.Nand.state l.fn.device).flash (g.N.Nand.state l.fn.device).geometry.pages l.initial.pages.items
      → AreNoted (g.N.Nand.state l.fn.device).flash (g.N.Nand.state l.fn.device).geometry.pages l.pages.items;
}
