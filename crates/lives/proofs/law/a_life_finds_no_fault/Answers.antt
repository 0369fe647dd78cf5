use Rattle.lives.specs.laws.LifeLaws.{life_no_fault}
use Rattle.lives.proofs.law.a_life_finds_no_fault.Goals as goal

pub returns : goal.returns
returns c = life_no_fault
