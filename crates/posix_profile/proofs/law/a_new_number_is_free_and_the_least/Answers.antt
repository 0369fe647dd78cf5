use Rattle.posix_profile.specs.laws.Number.{new_number_is}
use Rattle.posix_profile.proofs.law.a_new_number_is_free_and_the_least.Goals as goal

pub returns : goal.returns
returns c = new_number_is
