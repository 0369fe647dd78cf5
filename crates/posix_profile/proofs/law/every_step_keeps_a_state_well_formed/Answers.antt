use Rattle.posix_profile.specs.laws.Step.{step_well_formed}
use Rattle.posix_profile.proofs.law.every_step_keeps_a_state_well_formed.Goals as goal

pub returns : goal.returns
returns c = step_well_formed
