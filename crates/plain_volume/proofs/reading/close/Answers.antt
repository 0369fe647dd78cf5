use Rattle.plain_volume.proofs.StampedRequest.{done_then, closes}
use Rattle.plain_volume.proofs.reading.close.Goals as goal

pub returns : goal.returns
returns g c = done_then _ _ c.done_of.result (λ is. closes g.V.Answers.shows c.args.volume.now c.ask.new.volume c.in_ok-reply.reply c.args.fd c.in_ok-reply.ensures is) c.done_of.ensures
