use Rattle.chunk_index.specs.Shelves.{SameEntries}
use Rattle.chunk_index.proofs.index.Index.reserve_every_other.Given as goal

abbrev pub invariant-loop-at : goal.invariant-loop-at
invariant-loop-at l = SameEntries l.fn.self.shelf.objects l.self.shelf.objects
