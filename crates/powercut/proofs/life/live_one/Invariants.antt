use Rattle.nand_model.specs.MemoryState.{device}
use Rattle.powercut.specs.Naming.{totals}
use Rattle.powercut.proofs.life.live_one.Given as goal

-- the counts that the session begins with
abbrev pub ghost-new : goal.ghost-new
ghost-new a = totals (device a.nand)
