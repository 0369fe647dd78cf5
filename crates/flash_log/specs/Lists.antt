-- The list of a block's committed pages, for their copy.
-- From: this project.
use Rattle.std.specs.Prelude.{◌≡◌, ◌<◌, ◌≤◌, ℕ, false, List, length, Some, slice_get}
use Rattle.chunk_index.specs.declared.form.CommittedKey.{CommittedKey}
use Rattle.chunk_index.specs.declared.form.CommittedPage.{CommittedPage}
use Rattle.chunk_index.specs.declared.index.Index.{Index}
use Rattle.chunk_index.specs.Maps.{CommittedMap, committed_pages}
use Rattle.block_state.specs.Table.{Table}

-- The list has each key that is committed in block v once, with its committed page, and nothing else.
pub record ListsCommitted (v : ℕ) (m : CommittedMap) (places : List CommittedKey) : Type 0 where
  pub committed : (i : ℕ) (x : CommittedKey) → slice_get places i ≡ Some x → m x.key.object x.key.chunk ≡ Some x.at
  pub here : (i : ℕ) (x : CommittedKey) → slice_get places i ≡ Some x → x.at.block ≡ v
  pub all : (o c : ℕ) (p : CommittedPage) → m o c ≡ Some p → p.block ≡ v
      → (i : ℕ) × (slice_get places i ≡ Some (record { key = record { object = o; chunk = c }; at = p }))
  pub once : (i j : ℕ) (x y : CommittedKey) → slice_get places i ≡ Some x → slice_get places j ≡ Some y → x.key ≡ y.key → i ≡ j

-- the pages that are committed in a good block of the device, of which there are some, are listed
pub record IsListed (v : ℕ) (t : Table) (x : Index) (copies : List CommittedKey) : Type 0 where
  pub within : v < t.geometry.blocks
  pub good : (t.entry v).bad ≡ false
  pub some : 1 ≤ (t.entry v).committed
  pub lists : ListsCommitted v (committed_pages x) copies
  pub count : length copies ≡ (t.entry v).committed
