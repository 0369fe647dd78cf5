use Rattle.flash_tree.specs.laws.Summarizing.{summarized_erase}
use Rattle.flash_tree.proofs.summaries.an_erase_of_the_first_keeps_a_flash_summarized.Goals as goal

pub returns : goal.returns
returns c = summarized_erase
