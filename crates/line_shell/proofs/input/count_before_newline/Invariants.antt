use Rattle.std.proofs.Common.{◌≡◌, take}
use Rattle.line_shell.specs.Reading.{IsWithoutNewline}
use Rattle.line_shell.proofs.input.count_before_newline.Given as goal

abbrev pub invariant-loop-byte : goal.invariant-loop-byte
invariant-loop-byte l = record { totaled : l.count ≡ l.byte-index; before : IsWithoutNewline (take l.byte-index l.bytes) }
