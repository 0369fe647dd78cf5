use Rattle.std.proofs.Common.{◌≡◌, true}
use Rattle.mount_scan.specs.Listed.{listed}
use Rattle.mount_scan.specs.Scanned.{good_pages}
use Rattle.surviving_pages.specs.Latest.{LieBelow, HasLatestBelow}
use Rattle.surviving_pages.specs.Lost.{ListsLostBelow}
use Rattle.surviving_pages.specs.Surviving.{IsSurvivor}
use Rattle.surviving_pages.proofs.Reading.{HasRead}
use Rattle.surviving_pages.proofs.scan.find_survivors.Given as goal

abbrev pub invariant-loop-block : goal.invariant-loop-block
invariant-loop-block g l = record {
  read : HasRead (good_pages (g.N.Nand.state l.fn.device).flash (g.N.Nand.state l.fn.device).geometry.pages l.block) (g.N.Nand.state l.fn.device) (g.N.Nand.state l.device);
  placed : LieBelow (g.N.Nand.state l.fn.device).geometry.pages l.block (listed l.found);
  latest : (g.N.Nand.state l.fn.device).honest ≡ true → HasLatestBelow (IsSurvivor (g.N.Nand.state l.fn.device).flash) l.block (listed l.found);
  lost : (g.N.Nand.state l.fn.device).honest ≡ true → ListsLostBelow (g.N.Nand.state l.fn.device).flash l.block l.lost.items;
}
