use Rattle.block_state.specs.TableOf.{table}
use Rattle.chunk_index.specs.Adding.{AddsChunks, ArePagesOf, keys_of}
use Rattle.chunk_index.proofs.object.ObjectEntries.add_run.Given as goal

abbrev pub invariant-loop-at : goal.invariant-loop-at
invariant-loop-at l = record {
  adds : AddsChunks (keys_of l.pages) l.from l.at l.fn.self.entries.items l.self.entries.items (table l.fn.blocks) (table l.blocks);
  object : ArePagesOf (keys_of l.pages) l.from l.at l.object;
}
