use Rattle.nand_model.specs.Calls.{Device}
use Rattle.block_state.specs.Table.{Table}
use Rattle.block_state.specs.TableOf.{table}
use Rattle.transactions.specs.laws.Ready.{none_waits}
use Rattle.transactions.proofs.ReadyLaws.{ends_noted}
use Rattle.transactions.proofs.SummaryLaws.{summary_written, true_summary}
use Rattle.transactions.proofs.summary.write_summary.Goals as goal

pub returns-clause-adds : goal.returns-clause-adds
returns-clause-adds g c = λ honest writes.
    let made = c.write_any.ensures in
    let old : Device = g.N.Nand.state c.args.device.now in
    summary_written g.S.PageSource c.args.source.now old (g.N.Nand.state c.write_any.new.device) (table c.args.blocks.now) writes c.requires.can_write
    (made.group.writes honest) made.group.stays c.write_any.result (made.group.groups honest writes.summary.block writes.open_block)

pub returns-clause-numbers : goal.returns-clause-numbers
returns-clause-numbers g c =
    let made = c.write_any.ensures in
    let old : Device = g.N.Nand.state c.args.device.now in
    let t : Table = table c.args.blocks.now in
    record {
      numbers = made.group.numbers;
      truth = true_summary old (g.N.Nand.state c.write_any.new.device) t (table c.write_any.new.blocks) made.lasts (ends_noted _ t _ c.write_any.result made.group.table)
          (λ honest. none_waits old t _ c.requires.can_write (c.requires.summary honest).open_block)
          (λ honest. ((c.requires.summary honest).summary, returns-clause-adds g c honest (c.requires.summary honest)));
    }
