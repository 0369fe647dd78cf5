use Rattle.posix_profile.specs.laws.Fresh.{fresh_well_formed, fresh_fits}
use Rattle.posix_profile.proofs.law.a_formatted_volume_is_well_formed.Goals as goal

pub returns-clause-well_formed : goal.returns-clause-well_formed
returns-clause-well_formed c = fresh_well_formed

pub returns-clause-fits : goal.returns-clause-fits
returns-clause-fits c = fresh_fits
