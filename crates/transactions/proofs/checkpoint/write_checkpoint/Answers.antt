use Rattle.nand_model.specs.Calls.{Device}
use Rattle.block_state.specs.TableOf.{table}
use Rattle.transactions.proofs.CheckLaws.{checkpoint_written}
use Rattle.transactions.proofs.checkpoint.write_checkpoint.Goals as goal

pub returns-clause-checked : goal.returns-clause-checked
returns-clause-checked g c = λ checks.
    let honest = checks.honest in
    let writes = checks.writes in
    let made = c.write_any.ensures in
    let old : Device = g.N.Nand.state c.args.device.now in
    checkpoint_written g.S.PageSource c.args.source.now old (g.N.Nand.state c.write_any.new.device) (table c.args.blocks.now) writes checks.tree c.requires.can_write made.lasts
    (made.group.writes honest).grows made.group.stays honest (made.below honest writes.block writes.open_block) c.write_any.result (made.group.groups honest writes.block writes.open_block)
