use Rattle.plain_volume.proofs.StampedRequest.{ok_then, informs}
use Rattle.plain_volume.proofs.reading.info_at.Goals as goal

pub returns : goal.returns
returns g c = ok_then _ _ c.info_of.result (λ info is. informs g.V.Answers.shows c.args.volume.now c.ask.new.volume c.in_ok-reply.reply c.in_ok-path.path c.args.path.now info c.in_ok-path.ensures c.in_ok-reply.ensures is) c.info_of.ensures
