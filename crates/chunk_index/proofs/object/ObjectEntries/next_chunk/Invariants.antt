use Rattle.chunk_index.proofs.Following.{NoneCommitted}
use Rattle.chunk_index.proofs.object.ObjectEntries.next_chunk.Given as goal

abbrev pub invariant-loop-at : goal.invariant-loop-at
invariant-loop-at l = NoneCommitted l.self.entries.items l.initial.at l.at
