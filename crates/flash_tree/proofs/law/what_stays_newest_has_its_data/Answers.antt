use Rattle.flash_tree.specs.laws.Newest.{newest_with_stays, has_newest_stays, stays_on}
use Rattle.flash_tree.proofs.law.what_stays_newest_has_its_data.Goals as goal

pub returns : goal.returns
returns c = record { place = newest_with_stays; bytes = has_newest_stays; on = stays_on }
