use Rattle.std.proofs.Common.{◌<◌, ◌≤◌, ◌+◌, ℕ}
use Rattle.name_index.specs.Hashes.{fnv1a}
use Rattle.name_index.specs.Names.{Holds}
use Rattle.page_tags.specs.Slots.{Entry}
use Rattle.directories.specs.Hashing.{HoldsMore}
use Rattle.directories.specs.Slots.{SlotAt}
use Rattle.directories.proofs.naming.hash_page.Given as goal

abbrev pub invariant-loop-place : goal.invariant-loop-place
invariant-loop-place l = record {
  committed : HoldsMore l.fn.names l.names;
  done : (k : ℕ) (e : Entry) → l.start ≤ k → k < l.place → SlotAt l.page.bytes.items k e → l.first + k < 4294967296 → Holds l.names l.page.key.object (fnv1a e.name) (l.first + k);
}
