use Rattle.std.proofs.Common.{◌≡◌, ◌<◌, ◌+◌, ◌/◌, ◌-◌, ℕ}
use Rattle.name_index.specs.Hashes.{fnv1a}
use Rattle.name_index.specs.Names.{Holds}
use Rattle.volume_terms.specs.Sizes.{Sizes, page_slots}
use Rattle.directories.specs.Leaving.{WritesHash}
use Rattle.directories.specs.Writes.{HasKey}
use Rattle.directories.proofs.leaving.left_slot.Given as goal

abbrev pub invariant-loop-slot : goal.invariant-loop-slot
invariant-loop-slot l = record {
  hash : l.hash ≡ fnv1a l.name;
  committed : (z : Sizes) → z.page_bytes ≡ l.page_bytes → (s : ℕ) → s < l.from → Holds l.names l.directory (fnv1a l.name) s → HasKey l.change l.directory (1 + s / page_slots z)
      → WritesHash z l.change.pages.items l.directory s (fnv1a l.name);
}

abbrev pub decreases-loop-slot : goal.decreases-loop-slot
decreases-loop-slot l = 4294967296 - l.from
