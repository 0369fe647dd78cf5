use Rattle.std.proofs.Common.{ap}
use Rattle.std.proofs.lemmas.Result.{IfOk-at_ok}
use Rattle.block_state.specs.Table.{Table}
use Rattle.block_state.specs.TableOf.{table}
use Rattle.chunk_index.specs.laws.Maps.{below_empty}
use Rattle.log_tests.proofs.worked_index.Store.new.Goals as goal

pub invariant_of-result-clause-agree : goal.invariant_of-result-clause-agree
invariant_of-result-clause-agree g c =
    let made = IfOk-at_ok _ c.expect-blocks.ensures c.new-2.ensures in
    c.new-3.ensures.agree (table c.expect-blocks.result) (λ b. ap (λ (t : Table). (t.entry b).committed) made)

pub invariant_of-result-clause-within_limit : goal.invariant_of-result-clause-within_limit
invariant_of-result-clause-within_limit g c = below_empty 8 _ c.new-3.ensures.empty
