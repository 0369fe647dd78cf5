use Rattle.flash_tree.specs.Newest.{HasNewest}
use Rattle.flash_tree.specs.laws.Tree.{footprint_law}
use Rattle.flash_tree.proofs.law.the_footprint_shows_the_tree.Goals as goal

pub returns : goal.returns
returns c = λ z old new objects. footprint_law z (HasNewest old) (HasNewest new) objects
