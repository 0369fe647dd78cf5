use Rattle.flash_tree.specs.laws.Newest.{reads_keep}
use Rattle.flash_tree.proofs.law.reads_keep_what_is_newest.Goals as goal

pub returns : goal.returns
returns c = reads_keep
