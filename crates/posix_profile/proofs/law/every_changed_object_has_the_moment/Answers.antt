use Rattle.posix_profile.specs.laws.Moment.{command_stamps}
use Rattle.posix_profile.proofs.law.every_changed_object_has_the_moment.Goals as goal

pub returns : goal.returns
returns c = λ z read_only s stamped. (command_stamps stamped.moment s z read_only stamped.command).stamped
