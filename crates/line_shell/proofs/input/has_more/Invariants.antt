use Rattle.std.specs.Io.KnownBytes.{Keeps}
use Rattle.line_shell.proofs.input.has_more.Given as goal

-- nothing is taken
abbrev pub invariant-loop-turn : goal.invariant-loop-turn
invariant-loop-turn g l = Keeps (g.R.Read.remaining l.initial.reader) (g.R.Read.remaining l.reader)
