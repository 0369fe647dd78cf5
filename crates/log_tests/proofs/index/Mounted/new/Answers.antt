use Rattle.std.proofs.Common.{ap}
use Rattle.std.proofs.lemmas.Result.{IfOk-at_ok}
use Rattle.block_state.specs.Table.{Table}
use Rattle.log_tests.proofs.index.Mounted.new.Goals as goal

pub from_newest-requires-clause-none : goal.from_newest-requires-clause-none
from_newest-requires-clause-none g c = λ b. ap (λ (t : Table). (t.entry b).committed) (IfOk-at_ok _ c.expect-blocks.ensures c.new.ensures)
