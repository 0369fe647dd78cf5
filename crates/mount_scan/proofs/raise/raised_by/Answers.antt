use Rattle.flash_tree.specs.Places.{numbers_of}
use Rattle.mount_scan.proofs.raise.raised_by.Goals as goal

pub loop-i-preserved : goal.loop-i-preserved
loop-i-preserved c = c.raised_at-raised.ensures (numbers_of c.args.numbers) c.loop-i.invariant
