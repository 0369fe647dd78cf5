use Rattle.transactions.specs.laws.Ready.{below_erased, below_marked}
use Rattle.transactions.proofs.law.erases_and_marks_bring_no_number.Goals as goal

pub returns : goal.returns
returns c = record { erased = below_erased; marked = λ b old new group seq marks. below_marked b old new group seq marks.0 marks.1 marks.2 }
