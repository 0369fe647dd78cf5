use Rattle.line_shell.specs.Replies.{numbers_text}
use Rattle.line_shell.specs.laws.Writing.{stops_first, goes_on}
use Rattle.line_shell.proofs.output.write_tagged_numbers.Goals as goal

pub returns-in_err-write_bytes : goal.returns-in_err-write_bytes
returns-in_err-write_bytes g c = stops_first _ _ (c.args.name.now) (numbers_text c.args.numbers.now) c.from_residual.result c.from_residual.ensures.0 c.in_err-write_bytes.ensures

pub returns : goal.returns
returns g c = goes_on _ _ _ (c.args.name.now) (numbers_text c.args.numbers.now) c.write_numbers.result c.in_ok-write_bytes.ensures c.write_numbers.ensures
