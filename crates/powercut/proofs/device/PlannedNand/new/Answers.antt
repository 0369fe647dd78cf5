use Rattle.std.proofs.Common.{◌∙◌}
use Rattle.nand_model.specs.MemoryState.{device, plan}
use Rattle.powercut.proofs.Runs.{runs_here}
use Rattle.powercut.proofs.device.PlannedNand.new.Goals as goal

pub invariant_of-result-clause-run : goal.invariant_of-result-clause-run
invariant_of-result-clause-run g c = ∣ runs_here c.as_reported.result.reported (plan c.args.nand) (device c.args.nand) (c.as_reported.ensures ∙ c.requires.1.1.1) c.requires.0 ∣₁
