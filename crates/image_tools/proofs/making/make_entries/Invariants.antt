use Rattle.image_tools.specs.Leaving.{GoesOn}
use Rattle.image_tools.proofs.making.make_entries.Given as goal

abbrev pub invariant-loop-entry : goal.invariant-loop-entry
invariant-loop-entry g l = GoesOn g.V.Answers.shows l.initial.volume l.volume
