use Rattle.transactions.specs.laws.Ready.{same_bad}
use Rattle.transactions.proofs.law.the_table_has_the_marks_of_the_flash.Goals as goal

pub returns : goal.returns
returns c = same_bad
