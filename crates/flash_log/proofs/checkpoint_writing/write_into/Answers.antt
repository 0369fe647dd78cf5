use Rattle.block_state.specs.TableOf.{table}
use Rattle.transactions.specs.Checking.{log_of}
use Rattle.flash_log.specs.CheckpointWriting.{ListCommitted}
use Rattle.flash_log.proofs.CheckpointKeeping.{leaves_on}
use Rattle.flash_log.proofs.checkpoint_writing.write_into.Goals as goal

pub returns-in-Suspect-clause-leaves : goal.returns-in-Suspect-clause-leaves
returns-in-Suspect-clause-leaves g c =
    leaves_on (ListCommitted c.args.checks.now.index.now (g.N.Nand.state c.args.device.now)) c.args.block (log_of (g.N.Nand.state c.args.device.now) (table c.args.blocks.now)) (log_of (g.N.Nand.state c.write_checks.new.device) (table c.write_checks.new.blocks))
    (log_of (g.N.Nand.state c.mark_failed.new.device) (table c.mark_failed.new.blocks)) c.write_checks.ensures.leaves c.mark_failed.ensures.leaves

pub returns-in-Failed-clause-leaves : goal.returns-in-Failed-clause-leaves
returns-in-Failed-clause-leaves g c =
    leaves_on (ListCommitted c.args.checks.now.index.now (g.N.Nand.state c.args.device.now)) c.args.block (log_of (g.N.Nand.state c.args.device.now) (table c.args.blocks.now)) (log_of (g.N.Nand.state c.write_checks.new.device) (table c.write_checks.new.blocks))
    (log_of (g.N.Nand.state c.mark_failed-in-Failed.new.device) (table c.mark_failed-in-Failed.new.blocks)) c.write_checks.ensures.leaves c.mark_failed-in-Failed.ensures.leaves
