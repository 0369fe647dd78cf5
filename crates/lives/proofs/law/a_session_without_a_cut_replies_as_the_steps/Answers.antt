use Rattle.lives.specs.laws.LifeLaws.{life_replies}
use Rattle.lives.proofs.law.a_session_without_a_cut_replies_as_the_steps.Goals as goal

pub returns : goal.returns
returns c = life_replies
