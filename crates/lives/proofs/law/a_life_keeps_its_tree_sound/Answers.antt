use Rattle.lives.specs.laws.LifeLaws.{life_tree, life_trees}
use Rattle.lives.proofs.law.a_life_keeps_its_tree_sound.Goals as goal

pub returns-clause-last : goal.returns-clause-last
returns-clause-last c = life_tree

pub returns-clause-between : goal.returns-clause-between
returns-clause-between c = life_trees
