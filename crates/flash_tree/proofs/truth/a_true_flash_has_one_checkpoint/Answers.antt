use Rattle.flash_tree.specs.laws.Checking.{one_checkpoint}
use Rattle.flash_tree.proofs.truth.a_true_flash_has_one_checkpoint.Goals as goal

pub returns : goal.returns
returns c = one_checkpoint
