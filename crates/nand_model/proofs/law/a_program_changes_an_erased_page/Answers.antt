use Rattle.nand_model.specs.laws.Changes.{grows-program}
use Rattle.nand_model.proofs.law.a_program_changes_an_erased_page.Goals as goal

pub returns : goal.returns
returns c = λ b p old new at does. grows-program b p does.0 does.1 old new does.2 at.honest at.clean at.next does.3
