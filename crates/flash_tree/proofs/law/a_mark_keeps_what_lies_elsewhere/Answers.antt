use Rattle.flash_tree.specs.laws.Newest.{mark_keeps_elsewhere}
use Rattle.flash_tree.proofs.law.a_mark_keeps_what_lies_elsewhere.Goals as goal

pub returns : goal.returns
returns c = λ b old new marks. mark_keeps_elsewhere b old new marks.0 marks.1 marks.2
