use Rattle.std.proofs.Common.{take}
use Rattle.std.specs.Io.KnownBytes.{Appends}
use Rattle.line_shell.specs.Replies.{numbers_text}
use Rattle.line_shell.proofs.output.write_numbers.Given as goal

-- the numbers so far are out
abbrev pub invariant-loop-number : goal.invariant-loop-number
invariant-loop-number g l = Appends (g.W.Write.contents l.initial.writer) (g.W.Write.contents l.writer) (numbers_text (take l.number-index l.numbers))
