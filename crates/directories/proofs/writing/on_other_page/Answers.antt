use Rattle.directories.proofs.writing.on_other_page.Goals as goal

pub returns-in_default-clause-one : goal.returns-in_default-clause-one
returns-in_default-clause-one c = λ k e at. absurd (rw c.in_default.is at at)
