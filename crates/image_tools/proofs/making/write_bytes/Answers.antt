use Rattle.image_tools.proofs.Going.{goes_none}
use Rattle.image_tools.proofs.making.write_bytes.Goals as goal

pub loop-part-init : goal.loop-part-init
loop-part-init g c = goes_none g.V.Answers.shows c.args.volume.now
