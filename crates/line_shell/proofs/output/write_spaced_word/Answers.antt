use Rattle.std.proofs.Common.{[], ◌∷◌}
use Rattle.line_shell.specs.Words.{space, spelled}
use Rattle.line_shell.specs.laws.Writing.{stops_first, goes_on}
use Rattle.line_shell.proofs.output.write_spaced_word.Goals as goal

pub returns-in_err-write_bytes : goal.returns-in_err-write_bytes
returns-in_err-write_bytes g c = stops_first _ _ (space ∷ []) (spelled c.args.bytes.now) c.from_residual.result c.from_residual.ensures.0 c.in_err-write_bytes.ensures

pub returns : goal.returns
returns g c = goes_on _ _ _ (space ∷ []) (spelled c.args.bytes.now) c.write_word.result c.in_ok-write_bytes.ensures c.write_word.ensures
