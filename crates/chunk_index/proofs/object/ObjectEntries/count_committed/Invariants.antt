use Rattle.std.proofs.Common.{◌≡◌, ◌≤◌, ◌+◌, ℕ, length, drop}
use Rattle.chunk_index.specs.Following.{object_keys}
use Rattle.chunk_index.proofs.object.ObjectEntries.count_committed.Given as goal

abbrev pub invariant-loop-entry : goal.invariant-loop-entry
invariant-loop-entry l = record {
  keys : (o : ℕ) → l.count + length (object_keys o (drop l.entry-index l.entry-items)) ≡ length (object_keys o l.entry-items);
  within : l.count ≤ l.entry-index;
}
