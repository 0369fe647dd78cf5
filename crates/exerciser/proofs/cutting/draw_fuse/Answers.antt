use Rattle.nand_model.specs.MemoryState.{device}
use Rattle.exerciser.specs.Causes.{uncut}
use Rattle.exerciser.proofs.Seeds.{drawn_from}
use Rattle.exerciser.proofs.cutting.draw_fuse.Goals as goal

pub returns-clause-random : goal.returns-clause-random
returns-clause-random c =
    drawn_from (device c.args.nand.now) (uncut c.args.session.now) c.in_ok-count_calls.field-0 c.max-calls.result _ c.set_fuse.result c.in_ok-count_calls.ensures.totaled c.max-calls.ensures c.set_fuse.ensures.random
