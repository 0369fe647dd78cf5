use Rattle.image_tools.specs.Leaving.{GoesOn}
use Rattle.image_tools.proofs.making.write_bytes.Given as goal

abbrev pub invariant-loop-part : goal.invariant-loop-part
invariant-loop-part g l = GoesOn g.V.Answers.shows l.initial.volume l.volume
