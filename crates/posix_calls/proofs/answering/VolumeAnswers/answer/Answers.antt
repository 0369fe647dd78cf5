use Rattle.posix_calls.proofs.Answered.{call_answered}
use Rattle.posix_calls.proofs.answering.VolumeAnswers.answer.Goals as goal

pub returns-clause-right : goal.returns-clause-right
returns-clause-right g c = λ z read_only s shown.
    let answered = call_answered _ _ _ _ _ c.call.ensures z read_only s shown in
    record { reply_is = answered.reply_is; shown = answered.shown }
