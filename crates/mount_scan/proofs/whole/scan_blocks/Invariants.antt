use Rattle.std.proofs.Common.{◌≡◌, true}
use Rattle.flash_tree.specs.Places.{numbers_of}
use Rattle.mount_scan.specs.Scanned.{good_pages}
use Rattle.mount_scan.specs.Blocks.{ReportsBelow, AreGreatestBelow}
use Rattle.mount_scan.proofs.Reading.{HasRead}
use Rattle.mount_scan.proofs.whole.scan_blocks.Given as goal

abbrev pub invariant-loop-block : goal.invariant-loop-block
invariant-loop-block g l = record {
  read : HasRead (good_pages (g.N.Nand.state l.fn.device).flash (g.N.Nand.state l.fn.device).geometry.pages l.block) (g.N.Nand.state l.fn.device) (g.N.Nand.state l.device);
  valid_pages : ReportsBelow (g.N.Nand.state l.fn.device) l.block l.seen.valid_pages.items;
  numbers : (g.N.Nand.state l.fn.device).honest ≡ true → AreGreatestBelow (g.N.Nand.state l.fn.device).flash l.block (numbers_of l.seen.numbers);
}
