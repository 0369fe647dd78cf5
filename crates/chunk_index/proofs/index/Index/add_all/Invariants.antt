use Rattle.std.proofs.Common.{◌≡◌, ◌≤◌, ℕ}
use Rattle.block_state.specs.TableOf.{table}
use Rattle.mount_scan.specs.Listed.{listed, bucket_at}
use Rattle.mount_scan.specs.laws.Listed.{before}
use Rattle.chunk_index.specs.Counts.{Recounts}
use Rattle.chunk_index.specs.Found.{HasPages}
use Rattle.chunk_index.specs.Maps.{count_committed_in, CountsAgree}
use Rattle.chunk_index.proofs.index.Index.add_all.Given as goal

abbrev pub invariant-loop-at : goal.invariant-loop-at
invariant-loop-at l = record {
  has : HasPages (listed l.fn.newest) (before l.fn.newest l.at) l.self.shelf.objects;
  left : (k : ℕ) → l.at ≤ k → bucket_at l.left k ≡ bucket_at l.fn.newest k;
  agree : CountsAgree (table l.blocks) l.self;
  counts : Recounts (count_committed_in l.fn.self) (count_committed_in l.self) (table l.fn.blocks) (table l.blocks);
}
