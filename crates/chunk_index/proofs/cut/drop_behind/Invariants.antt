use Rattle.chunk_index.proofs.Dropping.{Drops}
use Rattle.chunk_index.proofs.cut.drop_behind.Given as goal

abbrev pub invariant-loop-at : goal.invariant-loop-at
invariant-loop-at l = Drops l.first l.fn.entries.items l.at l.entries.items
