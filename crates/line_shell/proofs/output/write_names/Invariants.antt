use Rattle.std.proofs.Common.{take}
use Rattle.std.specs.Io.KnownBytes.{Appends}
use Rattle.line_shell.specs.Replies.{names_text}
use Rattle.line_shell.proofs.output.write_names.Given as goal

-- the names so far are out
abbrev pub invariant-loop-name : goal.invariant-loop-name
invariant-loop-name g l = Appends (g.W.Write.contents l.initial.writer) (g.W.Write.contents l.writer) (names_text (take l.name-index l.names))
