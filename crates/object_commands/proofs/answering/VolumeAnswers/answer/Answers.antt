use Rattle.object_commands.proofs.Answered.{call_answered}
use Rattle.object_commands.proofs.answering.VolumeAnswers.answer.Goals as goal

pub returns-clause-right : goal.returns-clause-right
returns-clause-right g c = λ z read_only s shown. call_answered g.S.ObjectStore.meaning z read_only s c.args.stamped.now c.call.result c.args.self.now c.call.new.self shown c.call.ensures.keeps c.call.ensures.ends
