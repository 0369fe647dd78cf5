use Rattle.std.proofs.Common.{[], ◌∷◌, ◌++◌, codes, if◌then◌else◌}
use Rattle.line_shell.specs.Replies.{newline, reply_text}
use Rattle.flash_program.proofs.Stating.{with_read_only}
use Rattle.line_shell.specs.laws.Writing.{stops_first}
use Rattle.flash_program.proofs.space.write_space.Goals as goal

pub returns-in_err-write_reply : goal.returns-in_err-write_reply
returns-in_err-write_reply g c =
    stops_first _ _ (reply_text c.args.reply.now) (if c.args.read_only then codes "read-only" ++ (newline ∷ []) else []) c.from_residual.result c.from_residual.ensures.0
    c.in_err-write_reply.ensures

pub returns-then-read_only : goal.returns-then-read_only
returns-then-read_only g c =
    with_read_only _ _ _ c.args.reply.now c.args.read_only c.write_bytes.result c.if-read_only.true c.in_ok-write_reply.ensures c.write_bytes.ensures
