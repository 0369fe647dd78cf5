use Rattle.std.proofs.Common.{◌≡◌, ◌≤◌, ◌+◌, ◌*◌, ℕ, true}
use Rattle.nand_model.specs.Calls.{Device}
use Rattle.nand_model.specs.Changes.{OnlyReads}
use Rattle.mount_scan.specs.FewReads.{AreCosts, NotesSummaries, reads_ahead, sum_below}
use Rattle.mount_scan.specs.FirstPages.{FirstPagesBelow}
use Rattle.mount_scan.specs.SummaryScan.{AreSummaryPages, IsRestBelow}
use Rattle.mount_scan.proofs.ReadCount.{HasRead}
use Rattle.mount_scan.proofs.summary_scan.find_rest.Given as goal

abbrev pub invariant-loop-block : goal.invariant-loop-block
invariant-loop-block g l = record {
  read : HasRead ((g.N.Nand.state l.fn.device).geometry.pages * l.block) (g.N.Nand.state l.fn.device) (g.N.Nand.state l.device);
  renewed : l.rest.renewed ≡ l.firsts.renewed;
  bounded : (d : Device) (costs : ℕ → ℕ) → NotesSummaries d (g.N.Nand.state l.fn.device) l.firsts l.fn.summarized → d.honest ≡ true → AreCosts d.geometry d.flash costs
      → reads_ahead (g.N.Nand.state l.device) l.rest ≤ (g.N.Nand.state l.fn.device).reads + (d.geometry.pages + sum_below costs l.block);
  rest : (d : Device) → OnlyReads d (g.N.Nand.state l.fn.device) → FirstPagesBelow d d.geometry.blocks l.firsts → AreSummaryPages d l.fn.summarized → IsRestBelow d l.done.items l.block l.rest;
}
