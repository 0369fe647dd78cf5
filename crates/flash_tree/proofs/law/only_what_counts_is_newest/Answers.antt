use Rattle.flash_tree.specs.laws.Newest.{newest_counts}
use Rattle.flash_tree.proofs.law.only_what_counts_is_newest.Goals as goal

pub returns : goal.returns
returns c = newest_counts
