use Rattle.nand_model.specs.MemoryState.{device, plan}
use Rattle.powercut.proofs.Calls.{erase_keeps}
use Rattle.powercut.proofs.Runs.{erase_runs}
use Rattle.powercut.proofs.device.PlannedNandNand.erase.Goals as goal

pub invariant_of-self : goal.invariant_of-self
invariant_of-self c =
    let was = c.args.self.now in
    let old = was.nand in
    let new = c.erase.new.self in
    let did = c.erase.ensures in
    record {
      committed = erase_keeps (device old) (device new) (plan old) (plan new) was.start.reported was.committed c.args.block c.erase.result did.erases did.planned did.totaled;
      run = erase_runs was.start.reported (plan old) (plan new) (device old) (device new) was.committed was.run c.args.block c.erase.result did.erases did.planned did.totaled;
    }
