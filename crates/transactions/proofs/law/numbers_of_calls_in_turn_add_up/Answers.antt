use Rattle.transactions.specs.laws.Handing.{hands_on, hands_nothing}
use Rattle.transactions.proofs.law.numbers_of_calls_in_turn_add_up.Goals as goal

pub returns : goal.returns
returns c = record { on = hands_on; none = hands_nothing }
