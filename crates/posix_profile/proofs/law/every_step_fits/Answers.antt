use Rattle.posix_profile.specs.laws.Step.{step_fits}
use Rattle.posix_profile.proofs.law.every_step_fits.Goals as goal

pub returns : goal.returns
returns c = step_fits
