use Rattle.std.proofs.Common.{ap}
use Rattle.block_state.specs.Table.{Table}
use Rattle.block_state.specs.TableOf.{table}
use Rattle.flash_tree.specs.Places.{numbers_of}
use Rattle.transactions.specs.laws.Ready.{made_marked}
use Rattle.transactions.proofs.table.marked_table.Goals as goal

pub note_marks-requires-clause-good : goal.note_marks-requires-clause-good
note_marks-requires-clause-good g c = λ b. ap (λ (t : Table). (t.entry b).bad) c.in_ok-blocks.ensures

pub returns : goal.returns
returns g c = made_marked (g.N.Nand.state c.args.device.now) (numbers_of c.args.greatest) (table c.in_ok-blocks.blocks) (table c.note_marks.new.blocks) _
    (g.met.N.Nand.within c.args.device.now) (rw c.geometry.ensures at c.in_ok-blocks.ensures) c.note_marks.ensures c.raise.ensures
