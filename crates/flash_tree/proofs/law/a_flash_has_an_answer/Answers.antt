use Rattle.flash_tree.proofs.AnswerExists.{some_answer}
use Rattle.flash_tree.proofs.law.a_flash_has_an_answer.Goals as goal

pub returns : goal.returns
returns c = record { answer = some_answer; tree = λ g flash spare objects tree. (tree.volume, tree.shows, tree.room) }
