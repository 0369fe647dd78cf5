use Rattle.std.proofs.Common.{◌≡◌}
use Rattle.block_state.specs.Counting.{how_many}
use Rattle.block_state.specs.Table.{is_free}
use Rattle.block_state.specs.TableOf.{table}
use Rattle.block_state.proofs.blocks.Blocks.free_count.Given as goal

abbrev pub invariant-loop-block : goal.invariant-loop-block
invariant-loop-block l = l.count ≡ how_many (is_free (table l.self)) l.block
