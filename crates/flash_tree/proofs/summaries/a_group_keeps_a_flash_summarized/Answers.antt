use Rattle.flash_tree.specs.laws.Summarizing.{summarized_none, summarized_summary}
use Rattle.flash_tree.proofs.summaries.a_group_keeps_a_flash_summarized.Goals as goal

pub returns : goal.returns
returns c = record { other = λ g old new writes. summarized_none writes.0 writes.1 writes.2 old new writes.3 g; summary = summarized_summary }
