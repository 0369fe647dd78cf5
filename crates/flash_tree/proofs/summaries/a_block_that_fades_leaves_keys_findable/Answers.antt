use Rattle.flash_tree.specs.laws.Findable.{fades_key}
use Rattle.flash_tree.proofs.summaries.a_block_that_fades_leaves_keys_findable.Goals as goal

pub returns : goal.returns
returns c = λ g b old new fades o d. fades_key g old new b o d fades
