use Rattle.std.proofs.Common.{sym, ◌∙◌, ap}
use Rattle.mounting.specs.TreeAnswers.{of_walk, of_wrong}
use Rattle.mounting.proofs.reasons.root_fault.Goals as goal

pub returns-in-Some : goal.returns-in-Some
returns-in-Some c = ap of_wrong (sym c.in-Some.ensures.newer) ∙ ap of_walk (sym c.in-Broken.is)

pub returns-in-None : goal.returns-in-None
returns-in-None c = ap of_wrong (sym c.in-None.ensures.none) ∙ ap of_walk (sym c.in-Broken.is)
