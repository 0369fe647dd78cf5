use Rattle.chunk_index.specs.Settled.{IsFrom}
use Rattle.chunk_index.proofs.Noting.{where_same}
use Rattle.chunk_index.proofs.shelf.Shelf.settle_from.Goals as goal

pub returns-then-settle_entries-gt0 : goal.returns-then-settle_entries-gt0
returns-then-settle_entries-gt0 c = where_same c.args.group (IsFrom c.args.from) _ _ _ _ _ c.settle_entries.ensures.settles c.drop_empty.ensures.same
