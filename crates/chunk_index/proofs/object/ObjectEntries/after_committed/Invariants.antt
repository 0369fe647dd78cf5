use Rattle.std.proofs.Common.{◌≡◌, ℕ, drop}
use Rattle.chunk_index.specs.Following.{object_keys}
use Rattle.chunk_index.proofs.object.ObjectEntries.after_committed.Given as goal

abbrev pub invariant-loop-at : goal.invariant-loop-at
invariant-loop-at l = (o : ℕ) → drop l.left (object_keys o (drop l.at l.self.entries.items)) ≡ drop l.count (object_keys o l.self.entries.items)
