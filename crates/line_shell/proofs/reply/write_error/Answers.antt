use Rattle.std.proofs.Common.{codes}
use Rattle.line_shell.specs.Replies.{error_name}
use Rattle.line_shell.specs.laws.Writing.{stops_first, goes_on, text_is}
use Rattle.line_shell.proofs.reply.write_error.Goals as goal

pub returns-in_err-write_bytes : goal.returns-in_err-write_bytes
returns-in_err-write_bytes g c = stops_first _ _ (codes "error ") (error_name c.args.error) c.from_residual.result c.from_residual.ensures.0 c.in_err-write_bytes.ensures

pub returns : goal.returns
returns g c = goes_on _ _ _ (codes "error ") (error_name c.args.error) c.write_bytes-2.result c.in_ok-write_bytes.ensures
    (text_is _ _ _ (error_name c.args.error) c.write_bytes-2.result c.error_name.ensures c.write_bytes-2.ensures)
