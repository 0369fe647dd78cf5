use Rattle.std.proofs.Common.{rules}
use Rattle.nand_model.specs.Calls.{Device}
use Rattle.block_state.specs.TableOf.{table}
use Rattle.transactions.proofs.ReadyLaws.{group_true}
use Rattle.transactions.proofs.group.write_group.Goals as goal

pub returns-clause-numbers : goal.returns-clause-numbers
returns-clause-numbers g c =
    let made = c.write_any.ensures in
    let old : Device = g.N.Nand.state c.args.device.now in
    record {
      numbers = made.group.numbers;
      truth = group_true old _ (table c.args.blocks.now) _ _ (g.S.PageSource.name c.args.source.now (table c.args.blocks.now).next_group) _ _ made.not_empty c.requires.can_write made.lasts made.group.ends made.group.table
          (λ short. search rules) made.group.groups (λ honest. (made.group.writes honest).grows) made.group.stays.bad c.requires.ordinary (λ honest other. made.group.summaries honest (λ some. other));
    }
