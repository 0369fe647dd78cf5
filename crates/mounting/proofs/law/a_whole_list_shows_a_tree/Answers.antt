use Rattle.mounting.proofs.WholeTrees.{both_show}
use Rattle.mounting.proofs.law.a_whole_list_shows_a_tree.Goals as goal

pub returns-clause-tree : goal.returns-clause-tree
returns-clause-tree c = λ g flash m spare list within sized is volume on once.
    let answer = c.a_flash_has_an_answer.ensures.answer g flash within sized in
    both_show g flash m spare list is volume on once answer.0 answer.1
