use Rattle.std.proofs.Common.{◌≡◌, ◌++◌, ℕ, List}
use Rattle.std.specs.Io.KnownBytes.{Appends}
use Rattle.line_shell.proofs.output.write_bytes.Given as goal

-- what is no longer left is out
abbrev pub invariant-loop-turn : goal.invariant-loop-turn
invariant-loop-turn g l = record {
  out : List ℕ;
  split : l.initial.rest ≡ out ++ l.rest;
  appended : Appends (g.W.Write.contents l.initial.writer) (g.W.Write.contents l.writer) out;
}
