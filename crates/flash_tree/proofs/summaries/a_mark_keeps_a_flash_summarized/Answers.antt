use Rattle.flash_tree.specs.laws.Summarizing.{summarized_mark}
use Rattle.flash_tree.proofs.summaries.a_mark_keeps_a_flash_summarized.Goals as goal

pub returns : goal.returns
returns c = λ g b old new marks. summarized_mark g b old new marks.0 marks.1 marks.2
