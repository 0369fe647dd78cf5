use Rattle.block_state.specs.TableOf.{table}
use Rattle.transactions.specs.Marking.{MarksNoted}
use Rattle.transactions.proofs.table.note_marks.Given as goal

abbrev pub invariant-loop-block : goal.invariant-loop-block
invariant-loop-block g l = MarksNoted (g.N.Nand.state l.device) l.block (table l.fn.blocks) (table l.blocks)
