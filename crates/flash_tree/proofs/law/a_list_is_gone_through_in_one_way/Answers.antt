use Rattle.flash_tree.specs.Newest.{HasNewest}
use Rattle.flash_tree.specs.laws.Newest.{one_newest}
use Rattle.flash_tree.specs.laws.Finding.{one_end}
use Rattle.flash_tree.proofs.law.a_list_is_gone_through_in_one_way.Goals as goal

pub returns : goal.returns
returns c = λ z flash list n a b size. one_end z size (HasNewest flash) (one_newest flash) list n a b
