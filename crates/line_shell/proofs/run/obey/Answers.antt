use Rattle.std.proofs.Common.{refl, sym, subst}
use Rattle.std.proofs.lemmas.Result.{err_from_is_err_and}
use Rattle.line_shell.specs.Replies.{reply_text, bad_line_text}
use Rattle.line_shell.specs.Runs.{Answers}
use Rattle.line_shell.proofs.Running.{obeys_stops}
use Rattle.line_shell.proofs.run.obey.Goals as goal

pub returns-in_err-call-in-Do : goal.returns-in_err-call-in-Do
returns-in_err-call-in-Do g c =
    let p = err_from_is_err_and c.from_residual-in_err-call-in-Do.result c.from_residual-in_err-call-in-Do.ensures.1 in
    let called = c.in_err-call-in-Do.ensures in
    rw (p.1, p.2) (obeys_stops g.V.Answers.serves c.args.line (record { moment = c.args.moment; volume = c.args.volume.now })
    (g.W.Write.contents c.args.writer.now) (g.W.Write.contents c.call.new.writer) (reply_text called.reply) c.args.moment c.call.new.volume c.in_err-call-in-Do.field-0.0
    (subst (λ l. Answers g.V.Answers.serves l (record { moment = c.args.moment; volume = c.args.volume.now }) (reply_text called.reply) (record { moment = c.args.moment; volume = c.call.new.volume }))
    (sym c.in-Do.is) (called.reply, refl, called.served, refl)) called.reported)

pub returns-in_err-report_bad_line-in-Bad : goal.returns-in_err-report_bad_line-in-Bad
returns-in_err-report_bad_line-in-Bad g c =
    let p = err_from_is_err_and c.from_residual-in_err-report_bad_line-in-Bad.result c.from_residual-in_err-report_bad_line-in-Bad.ensures.1 in
    rw (p.1, p.2) (obeys_stops g.V.Answers.serves c.args.line (record { moment = c.args.moment; volume = c.args.volume.now })
    (g.W.Write.contents c.args.writer.now) (g.W.Write.contents c.report_bad_line.new.writer) bad_line_text c.args.moment c.args.volume.now c.in_err-report_bad_line-in-Bad.field-0.0
    (subst (λ l. Answers g.V.Answers.serves l (record { moment = c.args.moment; volume = c.args.volume.now }) bad_line_text (record { moment = c.args.moment; volume = c.args.volume.now }))
    (sym c.in-Bad.is) (refl, refl)) c.in_err-report_bad_line-in-Bad.ensures)
