use Rattle.chunk_index.specs.Settled.{IsListedIn}
use Rattle.chunk_index.proofs.Noting.{where_same}
use Rattle.chunk_index.proofs.shelf.Shelf.settle_run.Goals as goal

pub returns-then-self-size-clause-settles : goal.returns-then-self-size-clause-settles
returns-then-self-size-clause-settles c = where_same c.args.group (IsListedIn c.args.keys.now c.args.from c.settle_listed-end.result) _ _ _ _ _ c.settle_listed-end.ensures.settles c.drop_empty.ensures.same
