use Rattle.posix_profile.specs.laws.Error.{error_keeps}
use Rattle.posix_profile.proofs.law.an_error_changes_nothing.Goals as goal

pub returns : goal.returns
returns c = λ z read_only s stamped. error_keeps z read_only stamped.moment s stamped.command
