use Rattle.flash_tree.specs.laws.Summarizing.{lowest_first, lone_first}
use Rattle.flash_tree.proofs.summaries.the_lowest_block_goes_first.Goals as goal

pub returns : goal.returns
returns c = record { lowest = λ blocks flash b is. lowest_first blocks flash b is.within is.begins is.lowest; alone = lone_first }
