use Rattle.posix_profile.specs.laws.Step.{after_well_formed}
use Rattle.posix_profile.proofs.law.every_run_keeps_a_state_well_formed.Goals as goal

pub returns : goal.returns
returns c = after_well_formed
