use Rattle.flash_tree.specs.laws.Checking.{ordinary_added}
use Rattle.flash_tree.proofs.truth.groups_of_objects_bring_no_checkpoint.Goals as goal

pub returns : goal.returns
returns c = ordinary_added
