use Rattle.nand_model.specs.MemoryState.{device, plan}
use Rattle.powercut.proofs.Calls.{mark_keeps}
use Rattle.powercut.proofs.Runs.{mark_runs}
use Rattle.powercut.proofs.device.PlannedNandNand.mark_bad.Goals as goal

pub invariant_of-self : goal.invariant_of-self
invariant_of-self c =
    let was = c.args.self.now in
    let old = was.nand in
    let new = c.mark_bad.new.self in
    let did = c.mark_bad.ensures in
    record {
      committed = mark_keeps (device old) (device new) (plan old) (plan new) was.start.reported was.committed c.args.block c.mark_bad.result did.marks did.planned did.totaled;
      run = mark_runs was.start.reported (plan old) (plan new) (device old) (device new) was.committed was.run c.args.block c.mark_bad.result did.marks did.planned did.totaled;
    }
