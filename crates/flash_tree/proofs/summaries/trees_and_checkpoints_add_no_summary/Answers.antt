use Rattle.flash_tree.specs.laws.Summarizing.{ordinary_none, checkpoint_none}
use Rattle.flash_tree.proofs.summaries.trees_and_checkpoints_add_no_summary.Goals as goal

pub returns : goal.returns
returns c = record { objects = ordinary_none; checkpoint = checkpoint_none }
