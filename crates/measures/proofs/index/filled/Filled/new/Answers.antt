use Rattle.std.proofs.Common.{ap}
use Rattle.block_state.specs.Table.{Table}
use Rattle.block_state.specs.TableOf.{table}
use Rattle.chunk_index.specs.laws.Maps.{below_empty}
use Rattle.measures.proofs.index.filled.Filled.new.Goals as goal

pub invariant_of-result-clause-agree : goal.invariant_of-result-clause-agree
invariant_of-result-clause-agree c = c.new-3.ensures.agree (table c.in_ok-blocks.blocks) (λ b. ap (λ (t : Table). (t.entry b).committed) c.in_ok-blocks.ensures)

pub invariant_of-result-clause-within_limit : goal.invariant_of-result-clause-within_limit
invariant_of-result-clause-within_limit c = below_empty 64 _ c.new-3.ensures.empty
