use Rattle.std.proofs.Common.{◌≡◌, ◌≤◌, length, vec_capacity}
use Rattle.chunk_index.specs.Maps.{committed_pages}
use Rattle.flash_log.specs.Noted.{AreRising}
use Rattle.flash_log.proofs.noted.keep_committed.Given as goal

abbrev pub invariant-loop-at : goal.invariant-loop-at
invariant-loop-at l = record {
  most : l.committed ≤ l.at;
  len : length l.entries.items ≡ length l.fn.entries.items;
  capacity : vec_capacity l.fn.entries ≤ vec_capacity l.entries;
  rising : AreRising l.block (committed_pages l.index) l.entries.items l.committed;
}
