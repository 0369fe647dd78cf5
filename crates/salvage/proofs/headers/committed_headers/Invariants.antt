use Rattle.chunk_index.specs.Maps.{committed_pages}
use Rattle.salvage.specs.Headers.{ListsUpTo}
use Rattle.salvage.proofs.Committed.{IsLast, objects_after}
use Rattle.salvage.proofs.headers.committed_headers.Given as goal

abbrev pub invariant-loop-found : goal.invariant-loop-found
invariant-loop-found l = record {
  lists : ListsUpTo (committed_pages l.index) l.last l.headers.items;
  last : IsLast l.last;
}

abbrev pub decreases-loop-found : goal.decreases-loop-found
decreases-loop-found l = objects_after l.last
