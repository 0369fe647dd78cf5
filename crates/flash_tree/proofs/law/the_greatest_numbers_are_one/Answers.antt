use Rattle.flash_tree.specs.laws.Newest.{one_greatest}
use Rattle.flash_tree.proofs.law.the_greatest_numbers_are_one.Goals as goal

pub returns : goal.returns
returns c = one_greatest
