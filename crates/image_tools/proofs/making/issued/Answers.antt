use Rattle.image_tools.proofs.Going.{goes_reported}
use Rattle.image_tools.proofs.making.issued.Goals as goal

pub returns : goal.returns
returns g c = goes_reported g.V.Answers.shows c.args.volume.now c.ask.new.volume _ c.in_ok-reply.reply c.in_ok-reply.ensures
