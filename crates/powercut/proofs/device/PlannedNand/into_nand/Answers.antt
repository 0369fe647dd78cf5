use Rattle.nand_model.specs.MemoryState.{device, plan}
use Rattle.powercut.proofs.Passing.{passed, passed_calls, passed_runs}
use Rattle.powercut.proofs.device.PlannedNand.into_nand.Goals as goal

pub returns-clause-planned : goal.returns-clause-planned
returns-clause-planned c = λ p first lasts. passed p first (device c.args.self.nand) (plan c.args.self.nand) c.args.self.start.reported lasts c.args.self.committed

pub returns-clause-runs : goal.returns-clause-runs
returns-clause-runs c = λ p first lasts. passed_runs p first (device c.args.self.nand) (plan c.args.self.nand) c.args.self.start.reported lasts c.args.self.run

pub returns-clause-calls : goal.returns-clause-calls
returns-clause-calls c = λ p first lasts power. passed_calls p first (device c.args.self.nand) (plan c.args.self.nand) c.args.self.start.reported lasts c.args.self.committed power
