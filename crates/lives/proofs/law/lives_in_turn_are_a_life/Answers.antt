use Rattle.std.proofs.Common.{refl}
use Rattle.lives.specs.laws.LifeLaws.{turn_life, life_turn}
use Rattle.lives.proofs.law.lives_in_turn_are_a_life.Goals as goal

pub returns-clause-none : goal.returns-clause-none
returns-clause-none c = λ z tree. refl

pub returns-clause-joined : goal.returns-clause-joined
returns-clause-joined c = turn_life

pub returns-clause-split : goal.returns-clause-split
returns-clause-split c = life_turn
