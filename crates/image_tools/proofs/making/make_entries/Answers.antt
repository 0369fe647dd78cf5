use Rattle.image_tools.proofs.Going.{goes_none}
use Rattle.image_tools.proofs.making.make_entries.Goals as goal

pub loop-entry-init : goal.loop-entry-init
loop-entry-init g c = goes_none g.V.Answers.shows c.args.volume.now
