use Rattle.posix_profile.specs.laws.Reply.{command_reported}
use Rattle.posix_profile.proofs.law.every_reply_fits_its_type.Goals as goal

pub returns : goal.returns
returns c = λ z read_only s stamped sizes sound. (command_reported z sizes s sound read_only stamped.moment stamped.command).reply
