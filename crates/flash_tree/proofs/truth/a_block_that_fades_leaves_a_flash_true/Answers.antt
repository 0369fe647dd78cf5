use Rattle.flash_tree.specs.laws.Checking.{checked_faded, none_faded, none_left}
use Rattle.flash_tree.proofs.truth.a_block_that_fades_leaves_a_flash_true.Goals as goal

pub returns : goal.returns
returns c = record { there = checked_faded; none = none_faded; gone = none_left }
