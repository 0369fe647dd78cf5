use Rattle.std.proofs.Common.{◌≡◌, ◌≤◌, ◌+◌, ◌-◌, true, None, Ok, length}
use Rattle.block_state.specs.Committed.{bad_count}
use Rattle.block_state.specs.TableOf.{table}
use Rattle.transactions.specs.Checking.{log_of}
use Rattle.flash_log.specs.Bills.{Pays, bill_of}
use Rattle.flash_log.specs.Copying.{MayBeCopied, KeepsCounts, KeepsDataAt, KeepsCommittedAt}
use Rattle.flash_log.specs.Passing.{KeepsFound}
use Rattle.flash_log.specs.Taking.{LiesApart}
use Rattle.flash_log.specs.declared.copying.Copied.TheVariants as ends
use Rattle.flash_log.specs.declared.fault.MoveFault.{MoveFault}
use Rattle.flash_log.proofs.copying.copy_listed.Given as goal

abbrev pub invariant-loop-target : goal.invariant-loop-target
invariant-loop-target g l = record {
  keeps : KeepsCounts (g.N.Nand.state l.fn.device) (g.N.Nand.state l.device) (table l.fn.blocks) (table l.blocks);
  pays : Pays {E = MoveFault} (bill_of (log_of (g.N.Nand.state l.fn.device) (table l.fn.blocks)) 0 0 0) (log_of (g.N.Nand.state l.fn.device) (table l.fn.blocks))
      (log_of (g.N.Nand.state l.device) (table l.blocks)) (Ok ends.Marked);
  stored : (g.N.Nand.state l.fn.device).honest ≡ true → KeepsDataAt (table l.fn.blocks) (g.N.Nand.state l.fn.device).flash (g.N.Nand.state l.device).flash;
  newest : (g.N.Nand.state l.fn.device).honest ≡ true → KeepsCommittedAt (table l.fn.blocks) (g.N.Nand.state l.fn.device).flash (g.N.Nand.state l.device).flash;
  found : (g.N.Nand.state l.fn.device).honest ≡ true → KeepsFound (table l.fn.blocks) (g.N.Nand.state l.fn.device) (g.N.Nand.state l.device);
  closed : (table l.blocks).open_block ≡ None;
  within_limit : bad_count (table l.blocks) ≤ l.spare;
  apart : LiesApart (table l.blocks);
  size : length l.scratch ≡ (g.N.Nand.state l.device).geometry.bytes;
  copies : MayBeCopied (g.N.Nand.state l.device) (table l.blocks) l.copies;
}

abbrev pub decreases-loop-target : goal.decreases-loop-target
decreases-loop-target g l = l.spare + 1 - bad_count (table l.blocks)
