use Rattle.flash_tree.specs.laws.Newest.{erase_keeps_elsewhere}
use Rattle.flash_tree.proofs.law.an_erase_keeps_what_lies_elsewhere.Goals as goal

pub returns : goal.returns
returns c = erase_keeps_elsewhere
