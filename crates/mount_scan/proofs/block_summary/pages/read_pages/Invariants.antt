use Rattle.std.proofs.Common.{◌≡◌, ◌*◌, length}
use Rattle.mount_scan.specs.SummaryGroups.{HasPages}
use Rattle.mount_scan.proofs.SummaryReads.{HasRead}
use Rattle.mount_scan.proofs.block_summary.pages.read_pages.Given as goal

abbrev pub invariant-loop-i : goal.invariant-loop-i
invariant-loop-i g l = record {
  read : HasRead l.i (g.N.Nand.state l.fn.device) (g.N.Nand.state l.device);
  size : length l.bytes ≡ l.first.count * (g.N.Nand.state l.fn.device).geometry.bytes;
  tagged : HasPages (g.N.Nand.state l.fn.device) l.block l.first l.i l.bytes;
}
