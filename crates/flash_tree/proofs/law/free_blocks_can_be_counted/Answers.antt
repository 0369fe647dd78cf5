use Rattle.flash_tree.specs.laws.Free.{free_of_picked}
use Rattle.flash_tree.proofs.law.free_blocks_can_be_counted.Goals as goal

pub returns : goal.returns
returns c = λ g flash z objects count picked. free_of_picked g flash z objects picked.picks count picked.each picked.sufficient
