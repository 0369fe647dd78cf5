use Rattle.flash_tree.proofs.AnswerLaws.{one_answer}
use Rattle.flash_tree.proofs.law.a_flash_has_one_answer_at_most.Goals as goal

pub returns : goal.returns
returns c = one_answer
