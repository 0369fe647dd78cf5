use Rattle.plain_volume.proofs.Answered.{call_answered}
use Rattle.plain_volume.proofs.answering.PlainVolumeAnswers.answer.Goals as goal

pub returns-clause-right : goal.returns-clause-right
returns-clause-right c =
    let e = c.call.ensures in
    λ z read_only s shown. call_answered c.args.self.now c.call.new.self c.args.stamped.now c.call.result e.sizes e.read_only e.reply e.state e.memory e.goes_on e.sound z read_only s shown
