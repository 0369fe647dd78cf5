use Rattle.plain_volume.proofs.StampedRequest.{ok_then, lists}
use Rattle.plain_volume.proofs.reading.names_at.Goals as goal

pub returns : goal.returns
returns g c = ok_then _ _ c.names_of.result (λ names is. lists g.V.Answers.shows c.args.volume.now c.ask.new.volume c.in_ok-reply.reply c.in_ok-path.path c.args.path.now names.items c.in_ok-path.ensures c.in_ok-reply.ensures is) c.names_of.ensures
