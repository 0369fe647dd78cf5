use Rattle.std.proofs.Common.{◌≤◌, vec_len}
use Rattle.std.specs.Io.KnownBytes.{Consumes}
use Rattle.line_shell.specs.Lines.{longest_line}
use Rattle.line_shell.specs.Reading.{IsWithoutNewline}
use Rattle.line_shell.proofs.input.take_line.Given as goal

-- the line so far is what was taken, and the line does not end yet
abbrev pub invariant-loop-turn : goal.invariant-loop-turn
invariant-loop-turn g l = record {
  room : vec_len l.line ≤ longest_line;
  no_newline : IsWithoutNewline l.line.items;
  taken : Consumes (g.R.Read.remaining l.initial.reader) (g.R.Read.remaining l.reader) l.line.items;
}
