use Rattle.std.proofs.Common.{◌^◌}
use Rattle.block_state.specs.TableOf.{table}
use Rattle.chunk_index.specs.Entries.{counted_at}
use Rattle.chunk_index.specs.Shelves.{total}
use Rattle.chunk_index.specs.Counts.{Recounts, Tallies}
use Rattle.chunk_index.proofs.Staying.{Retaining, ahead}
use Rattle.chunk_index.proofs.shelf.Shelf.retain.Given as goal

abbrev pub invariant-loop-object : goal.invariant-loop-object
invariant-loop-object g l = record {
  retaining : Retaining (g.F.KeyFilter.keeps l.filter) l.done l.fn.self.objects l.self.objects;
  tallies : Tallies (table l.blocks) l.self.objects;
  counts : Recounts (λ b. total (counted_at b) l.fn.self.objects) (λ b. total (counted_at b) l.self.objects) (table l.fn.blocks) (table l.blocks);
}

abbrev pub decreases-loop-object : goal.decreases-loop-object
decreases-loop-object g l = ahead l.done (2 ^ 64)
