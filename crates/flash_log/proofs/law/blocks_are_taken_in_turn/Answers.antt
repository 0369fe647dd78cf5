use Rattle.flash_log.proofs.Passing.{passes_on}
use Rattle.flash_log.proofs.law.blocks_are_taken_in_turn.Goals as goal

pub returns : goal.returns
returns c = passes_on
