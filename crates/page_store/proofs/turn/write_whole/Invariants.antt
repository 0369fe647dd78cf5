use Rattle.std.proofs.Common.{◌≡◌, ◌≤◌, ◌-◌, ◌+◌, ◌*◌}
use Rattle.block_state.specs.Committed.{bad_count}
use Rattle.block_state.specs.TableOf.{table}
use Rattle.page_store.specs.BufferOf.{contents}
use Rattle.page_store.specs.Buffering.{Buffers}
use Rattle.nand_model.specs.Counts.{Costs, ReadsFew}
use Rattle.flash_log.specs.LogOf.{SameTerms, log_state, terms_of}
use Rattle.flash_log.specs.Moving.{AnswersFailures, MarksFailures}
use Rattle.flash_log.specs.Consistency.{HasFreeBlocks}
use Rattle.flash_log.specs.Steps.{Step}
use Rattle.page_store.specs.CommitKeeping.{SameSizes}
use Rattle.page_store.proofs.turn.write_whole.Given as goal

abbrev pub invariant-loop : goal.invariant-loop
invariant-loop g l = record {
  terms : SameTerms (terms_of l.fn.log) (terms_of l.log);
  step : Step l.fn.log.spare (log_state l.fn.log) (log_state l.log) l.fn.log.index l.log.index;
  buffers : Buffers l.log.index (contents l.buffer);
  same : contents l.buffer ≡ contents l.fn.buffer;
  marks : MarksFailures 0 0 (g.N.Nand.state l.fn.log.device) (g.N.Nand.state l.log.device) (table l.fn.log.blocks) (table l.log.blocks);
  answers : AnswersFailures 0 0 (g.N.Nand.state l.fn.log.device) (g.N.Nand.state l.log.device) (table l.fn.log.blocks) (table l.log.blocks);
  costs : Costs 0 (3 * (g.N.Nand.state l.fn.log.device).geometry.pages + 3) 0 (g.N.Nand.state l.fn.log.device) (g.N.Nand.state l.log.device);
  reads : ReadsFew 0 (g.N.Nand.state l.fn.log.device) (g.N.Nand.state l.log.device);
  first : (g.N.Nand.state l.log.device).failures ≡ (g.N.Nand.state l.fn.log.device).failures → log_state l.log ≡ log_state l.fn.log;
  within_limit : bad_count (table l.log.blocks) ≤ l.fn.log.spare;
  free : HasFreeBlocks (table l.log.blocks) l.fn.log.spare;
  sizes : SameSizes l.fn.buffer l.buffer;
}

abbrev pub decreases-loop : goal.decreases-loop
decreases-loop g l = l.fn.log.spare - bad_count (table l.log.blocks)
