use Rattle.flash_tree.specs.Newest.{HasNewest}
use Rattle.flash_tree.specs.laws.Newest.{one_newest}
use Rattle.flash_tree.specs.laws.OneTree.{one_tree}
use Rattle.flash_tree.proofs.law.a_flash_shows_one_tree.Goals as goal

pub returns : goal.returns
returns c = λ z f x y within_limit. one_tree z within_limit (HasNewest f) (one_newest f) x y
