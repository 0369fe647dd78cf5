use Rattle.mount_scan.specs.FirstPages.{FirstReadsBelow}
use Rattle.mount_scan.proofs.ReadCount.{HasRead}
use Rattle.mount_scan.proofs.first_page.read_first_pages.Given as goal

abbrev pub invariant-loop-block : goal.invariant-loop-block
invariant-loop-block g l = record {
  read : HasRead l.block (g.N.Nand.state l.fn.device) (g.N.Nand.state l.device);
  below : FirstReadsBelow (g.N.Nand.state l.fn.device) l.block l.reads;
}
