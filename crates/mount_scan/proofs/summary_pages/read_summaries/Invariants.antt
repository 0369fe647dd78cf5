use Rattle.std.proofs.Common.{◌≡◌, ◌≤◌, ◌+◌, ◌*◌, length}
use Rattle.nand_model.specs.Calls.{Device}
use Rattle.mount_scan.specs.FewReads.{AreDoneBelow, sum_below, summary_size}
use Rattle.mount_scan.specs.FirstPages.{KeepsNoted}
use Rattle.mount_scan.specs.SummaryScan.{AreSummaryPages}
use Rattle.mount_scan.proofs.ReadCount.{HasRead}
use Rattle.mount_scan.proofs.summary_pages.read_summaries.Given as goal

abbrev pub invariant-loop-block : goal.invariant-loop-block
invariant-loop-block g l = record {
  read : HasRead ((g.N.Nand.state l.fn.device).geometry.pages * l.block) (g.N.Nand.state l.fn.device) (g.N.Nand.state l.device);
  len : length l.summarized.done.items ≡ (g.N.Nand.state l.fn.device).geometry.blocks;
  bounded : (g.N.Nand.state l.device).reads ≤ (g.N.Nand.state l.fn.device).reads + sum_below (summary_size l.pages) l.block;
  done : (d : Device) → KeepsNoted d (g.N.Nand.state l.fn.device) l.pages → AreDoneBelow d l.block l.summarized;
  summarized : (d : Device) → KeepsNoted d (g.N.Nand.state l.fn.device) l.pages → AreSummaryPages d l.summarized;
}
