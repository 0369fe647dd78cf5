use Rattle.posix_profile.specs.laws.Own.{command_own}
use Rattle.posix_profile.proofs.law.a_step_answers_itself.Goals as goal

pub returns : goal.returns
returns c = λ z read_only s stamped. command_own s z read_only stamped.moment stamped.command
