use Rattle.std.proofs.Common.{arith}
use Rattle.line_shell.proofs.Words.{piece_plain, none_alone, piece_backslash, piece_nothing, piece_byte, none_digits, none_short, none_other}
use Rattle.line_shell.proofs.word.first_piece.Goals as goal

pub returns-then-word-ne92 : goal.returns-then-word-ne92
returns-then-word-ne92 c = piece_plain c.args.word.now c.requires c.if-word-ne92.true

pub returns-then-word-lt2 : goal.returns-then-word-lt2
returns-then-word-lt2 c = none_alone c.args.word.now c.requires c.if-word-lt2.true c.if-word-ne92.false

pub returns-in-92 : goal.returns-in-92
returns-in-92 c = piece_backslash c.args.word.now (omega arith) c.if-word-ne92.false c.in-92.is

pub returns-in-101 : goal.returns-in-101
returns-in-101 c = piece_nothing c.args.word.now (omega arith) c.if-word-ne92.false c.in-101.is

pub returns-in_default : goal.returns-in_default
returns-in_default c = none_other c.args.word.now (omega arith) c.if-word-ne92.false (λ e. absurd (omega arith)) (λ e. absurd (omega arith)) (λ e. absurd (omega arith))

pub returns-then-word-lt4 : goal.returns-then-word-lt4
returns-then-word-lt4 c = none_short c.args.word.now (omega arith) c.if-word-lt4.true c.if-word-ne92.false c.in-120.is

pub returns-in_ok-byte-in-120 : goal.returns-in_ok-byte-in-120
returns-in_ok-byte-in-120 c = piece_byte c.args.word.now c.in_ok-byte-in-120.byte (omega arith) c.if-word-ne92.false c.in-120.is c.in_ok-byte-in-120.ensures

pub returns-in_err-byte-in-120 : goal.returns-in_err-byte-in-120
returns-in_err-byte-in-120 c = rw c.from_residual.ensures (none_digits c.args.word.now (omega arith) c.if-word-ne92.false c.in-120.is c.in_err-byte-in-120.ensures)
