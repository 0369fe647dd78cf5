use Rattle.flash_tree.specs.laws.Fading.{fades_erase, fades_mark}
use Rattle.flash_tree.proofs.truth.an_erase_and_a_mark_fade_a_block.Goals as goal

pub returns : goal.returns
returns c = record { erase = fades_erase; mark = λ b old new marks. fades_mark b old new marks.0 marks.1 marks.2 }
