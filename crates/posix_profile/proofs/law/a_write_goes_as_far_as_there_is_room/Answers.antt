use Rattle.posix_profile.specs.laws.Write.{write_count_is}
use Rattle.posix_profile.proofs.law.a_write_goes_as_far_as_there_is_room.Goals as goal

pub returns : goal.returns
returns c = λ z moment s handle bytes new is. write_count_is z moment s handle is.moment bytes new is.page is.fit is.file
