use Rattle.flash_tree.specs.laws.Findable.{summary_key}
use Rattle.flash_tree.proofs.summaries.a_summary_leaves_keys_findable.Goals as goal

pub returns : goal.returns
returns c = λ g old new s added right o d. summary_key g old new s added right o d
