use Rattle.posix_profile.specs.laws.Number.{free_descriptor_is, no_descriptor_is}
use Rattle.posix_profile.proofs.law.a_free_descriptor_is_the_least.Goals as goal

pub returns-clause-least : goal.returns-clause-least
returns-clause-least c = free_descriptor_is

pub returns-clause-none : goal.returns-clause-none
returns-clause-none c = no_descriptor_is
