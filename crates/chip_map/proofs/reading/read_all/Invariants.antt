use Rattle.std.proofs.Common.{◌≡◌, ◌*◌, true, length}
use Rattle.chip_map.specs.Valid.{AreNoted}
use Rattle.chip_map.proofs.Adding.{HasPower}
use Rattle.chip_map.proofs.reading.read_all.Given as goal

abbrev pub invariant-loop-block : goal.invariant-loop-block
invariant-loop-block g l = record {
  read : HasPower (g.N.Nand.state l.fn.device) (g.N.Nand.state l.device);
  len : length l.pages.items ≡ l.block * (g.N.Nand.state l.fn.device).geometry.pages;
  noted : (g.N.Nand.state l.fn.device).honest ≡ true → AreNoted (g.N.Nand.state l.fn.device).flash (g.N.Nand.state l.fn.device).geometry.pages l.pages.items;
}
