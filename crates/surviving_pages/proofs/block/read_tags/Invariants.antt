use Rattle.std.proofs.Common.{◌≡◌, length, true}
use Rattle.mount_scan.specs.Blocks.{AreTags}
use Rattle.surviving_pages.proofs.Reading.{HasRead}
use Rattle.surviving_pages.proofs.block.read_tags.Given as goal

abbrev pub invariant-loop-page : goal.invariant-loop-page
invariant-loop-page g l = record {
  read : HasRead l.page (g.N.Nand.state l.fn.device) (g.N.Nand.state l.device);
  len : length l.tags.items ≡ l.page;
  tags : (g.N.Nand.state l.fn.device).honest ≡ true → AreTags (g.N.Nand.state l.fn.device).flash l.block l.tags.items;
}
