use Rattle.line_shell.proofs.Scripting.{SoFar}
use Rattle.line_shell.proofs.script.read_script.Given as goal

-- the lines so far are read
abbrev pub invariant-loop-count : goal.invariant-loop-count
invariant-loop-count g l = SoFar (g.R.Read.remaining l.initial.reader) (g.R.Read.remaining l.reader) l.moment l.script.items l._count
