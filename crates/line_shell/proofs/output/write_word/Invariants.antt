use Rattle.std.proofs.Common.{take, flat_map}
use Rattle.std.specs.Io.KnownBytes.{Appends}
use Rattle.line_shell.specs.Words.{spelled_byte}
use Rattle.line_shell.proofs.output.write_word.Given as goal

-- the bytes so far are out
abbrev pub invariant-loop-byte : goal.invariant-loop-byte
invariant-loop-byte g l = Appends (g.W.Write.contents l.initial.writer) (g.W.Write.contents l.writer) (flat_map spelled_byte (take l.byte-index l.bytes))
