use Rattle.nand_model.specs.laws.Changes.{shrinks-erase}
use Rattle.nand_model.proofs.law.an_erase_shrinks_its_block.Goals as goal

pub returns : goal.returns
returns c = shrinks-erase
