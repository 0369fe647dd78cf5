use Rattle.nand_model.specs.MemoryState.{device, plan}
use Rattle.powercut.proofs.Calls.{program_keeps}
use Rattle.powercut.proofs.Runs.{program_runs}
use Rattle.powercut.proofs.device.PlannedNandNand.program.Goals as goal

pub invariant_of-self : goal.invariant_of-self
invariant_of-self c =
    let was = c.args.self.now in
    let old = was.nand in
    let new = c.program.new.self in
    let did = c.program.ensures in
    record {
      committed = program_keeps (device old) (device new) (plan old) (plan new) was.start.reported was.committed c.args.block c.args.page c.args.bytes.now c.args.tag.now c.program.result did.programs did.planned did.totaled;
      run = program_runs was.start.reported (plan old) (plan new) (device old) (device new) was.committed was.run c.args.block c.args.page c.args.bytes.now c.args.tag.now c.program.result did.programs did.planned did.totaled;
    }
