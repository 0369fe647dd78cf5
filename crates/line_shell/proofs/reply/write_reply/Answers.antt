use Rattle.std.proofs.Common.{[], ◌∷◌}
use Rattle.line_shell.specs.Replies.{newline, reply_words, reply_text}
use Rattle.line_shell.specs.laws.Writing.{stops_first, goes_on}
use Rattle.line_shell.proofs.reply.write_reply.Goals as goal

pub returns-in_err-write_words : goal.returns-in_err-write_words
unfolding reply_text
returns-in_err-write_words g c = stops_first _ _ (reply_words c.args.reply.now) (newline ∷ []) c.from_residual.result c.from_residual.ensures.0 c.in_err-write_words.ensures

pub returns : goal.returns
unfolding reply_text
returns g c = goes_on _ _ _ (reply_words c.args.reply.now) (newline ∷ []) c.write_bytes.result c.in_ok-write_words.ensures c.write_bytes.ensures
