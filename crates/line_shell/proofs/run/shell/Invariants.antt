use Rattle.line_shell.proofs.Running.{SoFar}
use Rattle.line_shell.proofs.run.shell.Given as goal

-- the lines so far are answered
abbrev pub invariant-loop-count : goal.invariant-loop-count
invariant-loop-count g l =
    SoFar g.V.Answers.serves (g.R.Read.remaining l.initial.reader) (g.R.Read.remaining l.reader) (g.W.Write.contents l.initial.writer) (g.W.Write.contents l.writer) l.initial.volume
    (record { moment = l.moment; volume = l.volume }) l._count
