use Rattle.plain_volume.proofs.StampedRequest.{ok_then, opens}
use Rattle.plain_volume.proofs.reading.open_to_read.Goals as goal

pub returns : goal.returns
returns g c = ok_then _ _ c.descriptor_of.result (λ fd is. opens g.V.Answers.shows c.args.volume.now c.ask.new.volume c.in_ok-reply.reply c.in_ok-path.path c.args.path.now fd c.in_ok-path.ensures c.in_ok-reply.ensures is) c.descriptor_of.ensures
