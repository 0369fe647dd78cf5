use Rattle.flash_tree.specs.laws.Checking.{checkpoint_added}
use Rattle.flash_tree.proofs.truth.the_group_of_a_checkpoint_leaves_a_flash_true.Goals as goal

pub returns : goal.returns
returns c = checkpoint_added
