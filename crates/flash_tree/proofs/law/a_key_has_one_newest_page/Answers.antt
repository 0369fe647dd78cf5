use Rattle.flash_tree.specs.laws.Newest.{one_spot, one_newest}
use Rattle.flash_tree.proofs.law.a_key_has_one_newest_page.Goals as goal

pub returns : goal.returns
returns c = record { place = one_spot; bytes = one_newest }
