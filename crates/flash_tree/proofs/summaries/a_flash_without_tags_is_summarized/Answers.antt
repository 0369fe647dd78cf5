use Rattle.flash_tree.specs.laws.Summarizing.{summarized_blank, summarized_same}
use Rattle.flash_tree.proofs.summaries.a_flash_without_tags_is_summarized.Goals as goal

pub returns : goal.returns
returns c = record { blank = summarized_blank; same = summarized_same }
