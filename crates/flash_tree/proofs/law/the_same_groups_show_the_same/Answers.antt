use Rattle.flash_tree.specs.laws.Newest.{same_groups_keep}
use Rattle.flash_tree.proofs.law.the_same_groups_show_the_same.Goals as goal

pub returns : goal.returns
returns c = same_groups_keep
