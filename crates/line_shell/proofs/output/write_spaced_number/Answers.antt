use Rattle.std.proofs.Common.{◌∙◌, [], ◌∷◌}
use Rattle.std.specs.Fmt.{decimal}
use Rattle.line_shell.specs.Words.{space}
use Rattle.line_shell.specs.laws.Writing.{stops_first, goes_on, text_is}
use Rattle.line_shell.proofs.output.write_spaced_number.Goals as goal

pub returns-in_err-write_bytes : goal.returns-in_err-write_bytes
returns-in_err-write_bytes g c = stops_first _ _ (space ∷ []) (decimal c.args.number) c.from_residual.result c.from_residual.ensures.0 c.in_err-write_bytes.ensures

pub returns : goal.returns
returns g c =
    goes_on _ _ _ (space ∷ []) (decimal c.args.number) c.write_bytes-2.result c.in_ok-write_bytes.ensures
    (text_is _ _ _ (decimal c.args.number) c.write_bytes-2.result (c.as_bytes.ensures.value ∙ c.format.ensures.text) c.write_bytes-2.ensures)
