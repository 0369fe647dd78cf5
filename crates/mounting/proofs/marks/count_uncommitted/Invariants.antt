use Rattle.std.proofs.Common.{◌≡◌}
use Rattle.block_state.specs.Counting.{how_many}
use Rattle.block_state.specs.Committed.{is_uncommitted}
use Rattle.block_state.specs.TableOf.{table}
use Rattle.mounting.specs.Marked.{marked}
use Rattle.mounting.proofs.marks.count_uncommitted.Given as goal

abbrev pub invariant-loop-block : goal.invariant-loop-block
invariant-loop-block g l = l.count ≡ how_many (is_uncommitted (marked (g.N.Nand.state l.device).flash (table l.blocks))) l.block
