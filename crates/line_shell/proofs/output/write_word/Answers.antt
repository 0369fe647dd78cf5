use Rattle.std.proofs.Common.{flat_map, sym, rules}
use Rattle.line_shell.specs.Words.{spelled, spelled_byte}
use Rattle.line_shell.proofs.Words.{spelled_some}
use Rattle.line_shell.specs.laws.Writing.{stops_at, text_is}
use Rattle.line_shell.proofs.output.write_word.Goals as goal

pub returns-in_err-write_spelled_byte : goal.returns-in_err-write_spelled_byte
returns-in_err-write_spelled_byte g c =
    text_is _ _ (flat_map spelled_byte c.args.bytes.now) (spelled c.args.bytes.now) c.from_residual.result (sym (spelled_some c.args.bytes.now (search rules)))
    (stops_at spelled_byte c.args.bytes.now c.loop-byte.byte-index 0 _ _ _ c.from_residual.result c.loop-byte-test.true
    c.loop-byte.invariant c.from_residual.ensures.0 c.in_err-write_spelled_byte.ensures)
