use Rattle.posix_profile.specs.laws.Path.{resolved_place}
use Rattle.posix_profile.proofs.law.a_path_leads_to_a_place.Goals as goal

pub returns : goal.returns
returns c = resolved_place
