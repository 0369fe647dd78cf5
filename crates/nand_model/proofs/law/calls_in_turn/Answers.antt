use Rattle.nand_model.specs.laws.Calls.{lasts_on}
use Rattle.nand_model.proofs.law.calls_in_turn.Goals as goal

pub returns : goal.returns
returns c = lasts_on
