use Rattle.std.proofs.Common.{◌≡◌, ◌≤◌, ◌+◌, ◌-◌, ◌*◌}
use Rattle.nand_model.specs.Calls.{Lasts}
use Rattle.block_state.specs.Committed.{bad_count}
use Rattle.block_state.specs.TableOf.{table}
use Rattle.transactions.specs.Handing.{HandsOut}
use Rattle.transactions.specs.Ready.{IsReady}
use Rattle.flash_log.specs.Moving.{AnswersFailures}
use Rattle.flash_log.specs.Passing.{Passes}
use Rattle.flash_log.specs.Taking.{LiesApart, SameTurns, TakesNone}
use Rattle.flash_log.proofs.take.take_block.Given as goal

abbrev pub invariant-loop-block : goal.invariant-loop-block
invariant-loop-block g l = record {
  lasts : Lasts (g.N.Nand.state l.fn.device) (g.N.Nand.state l.device);
  can_write : IsReady (g.N.Nand.state l.device) (table l.blocks);
  numbers : HandsOut (g.N.Nand.state l.fn.device) (g.N.Nand.state l.device) (table l.fn.blocks) (table l.blocks);
  passes : Passes (g.N.Nand.state l.fn.device) (g.N.Nand.state l.device) (table l.fn.blocks) (table l.blocks);
  none : TakesNone (table l.fn.blocks) (table l.blocks);
  answers : AnswersFailures 0 0 (g.N.Nand.state l.fn.device) (g.N.Nand.state l.device) (table l.fn.blocks) (table l.blocks);
  costs : (g.N.Nand.state l.device).changes + 2 * (g.N.Nand.state l.fn.device).failures ≤ (g.N.Nand.state l.fn.device).changes + 2 * (g.N.Nand.state l.device).failures;
  reads : (g.N.Nand.state l.device).reads ≡ (g.N.Nand.state l.fn.device).reads;
  within_limit : bad_count (table l.blocks) ≤ l.spare;
  turns : SameTurns (table l.fn.blocks) (table l.blocks);
  apart : LiesApart (table l.blocks);
}

abbrev pub decreases-loop-block : goal.decreases-loop-block
decreases-loop-block g l = l.spare + 1 - bad_count (table l.blocks)
