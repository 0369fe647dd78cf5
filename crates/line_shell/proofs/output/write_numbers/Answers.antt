use Rattle.std.proofs.Common.{◌∷◌}
use Rattle.std.specs.Fmt.{decimal}
use Rattle.line_shell.specs.Words.{space}
use Rattle.line_shell.specs.laws.Writing.{stops_at}
use Rattle.line_shell.proofs.output.write_numbers.Goals as goal

pub returns-in_err-write_spaced_number : goal.returns-in_err-write_spaced_number
returns-in_err-write_spaced_number g c =
    stops_at (λ n. space ∷ decimal n) c.args.numbers.now c.loop-number.number-index 0 _ _ _ c.from_residual.result c.loop-number-test.true
    c.loop-number.invariant c.from_residual.ensures.0 c.in_err-write_spaced_number.ensures
