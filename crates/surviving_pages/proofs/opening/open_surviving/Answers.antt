use Rattle.std.proofs.Common.{ap}
use Rattle.block_state.specs.Table.{Table}
use Rattle.surviving_pages.proofs.Indexed.{lies_on, has_survivors}
use Rattle.surviving_pages.proofs.opening.open_surviving.Goals as goal

pub returns-clause-within : goal.returns-clause-within
returns-clause-within g c = lies_on _ c.in_ok-index.index c.in_ok-index.ensures.indexes (g.N.Nand.state c.args.device.now).geometry c.in_ok-found.ensures.listed

pub returns-clause-survivors : goal.returns-clause-survivors
returns-clause-survivors g c = λ honest.
    let old = g.N.Nand.state c.args.device.now in
    has_survivors _ c.in_ok-index.index c.in_ok-index.ensures.indexes old.flash old.geometry c.in_ok-found.ensures.listed (c.in_ok-found.ensures.newest honest)

pub from_newest-requires-clause-none : goal.from_newest-requires-clause-none
from_newest-requires-clause-none g c = λ b. ap (λ (t : Table). (t.entry b).committed) c.in_ok-blocks.ensures
