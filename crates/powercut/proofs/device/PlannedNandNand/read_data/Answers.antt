use Rattle.nand_model.specs.MemoryState.{device, plan}
use Rattle.powercut.proofs.Calls.{read_keeps}
use Rattle.powercut.proofs.Runs.{read_runs}
use Rattle.powercut.proofs.device.PlannedNandNand.read_data.Goals as goal

pub invariant_of-self : goal.invariant_of-self
invariant_of-self c =
    let was = c.args.self.now in
    let old = was.nand in
    let new = c.read_data.new.self in
    let did = c.read_data.ensures in
    record {
      committed = read_keeps (device old) (device new) (plan old) (plan new) was.start.reported was.committed c.read_data.result did.reads did.planned did.totaled;
      run = read_runs was.start.reported (plan old) (plan new) (device old) (device new) was.committed was.run c.read_data.result did.reads did.planned did.totaled;
    }
