use Rattle.block_state.specs.TableOf.{table}
use Rattle.chunk_index.specs.Settled.{SettlesChunks, IsChunkIn, AreOfObject}
use Rattle.chunk_index.proofs.object.ObjectEntries.settle_run.Given as goal

abbrev pub invariant-loop-at : goal.invariant-loop-at
invariant-loop-at l = record {
  settles : SettlesChunks l.group (IsChunkIn l.keys l.from l.at) l.fn.self.entries.items l.self.entries.items (table l.fn.blocks) (table l.blocks);
  object : AreOfObject l.keys l.from l.at l.object;
}
