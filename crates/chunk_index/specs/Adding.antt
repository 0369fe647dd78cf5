-- Pages that become committed, one after another.
use Rattle.std.specs.Prelude.{◌≡◌, ◌<◌, ◌≤◌, ◌+◌, ◌^◌, ℕ, List, length, map, slice_get, Some, None}
use Rattle.nand_model.specs.declared.geometry.Geometry.{Geometry}
use Rattle.block_state.specs.Table.{Table}
use Rattle.mount_scan.specs.declared.page_copy.PageCopy.{PageCopy}
use Rattle.page_tags.specs.declared.check.CheckEntry.{CheckEntry}
use Rattle.chunk_index.specs.declared.form.CommittedKey.{CommittedKey}
use Rattle.chunk_index.specs.declared.placed_pages.PlacedPages.{PlacedPages}
use Rattle.chunk_index.specs.declared.placed_pages.PlacedPages.TheVariants as placed_pages
use Rattle.chunk_index.specs.declared.entry.KeyEntry.{KeyEntry}
use Rattle.chunk_index.specs.Counts.{RecountsEntries}
use Rattle.chunk_index.specs.Entries.{chunk, committed_at, same_of}
use Rattle.chunk_index.specs.Lists.{find_by}
use Rattle.chunk_index.specs.Newest.{page_of}
use Rattle.chunk_index.specs.Shelves.{ObjectMap, look, Differs}

-- the key of a page that a scan found, with the page
abbrev pub copy_key : PageCopy → CommittedKey
copy_key f = record { key = record { object = f.object; chunk = f.chunk }; at = page_of f }

-- the key of an entry of a checkpoint, with the page that it reports
abbrev pub entry_key : CheckEntry → CommittedKey
entry_key e = record { key = record { object = e.object; chunk = e.chunk }; at = record { block = e.block; page = e.page; version = e.version } }

-- the keys of the pages, each with where its page lies in which version
abbrev pub keys_of : PlacedPages → List CommittedKey
keys_of (placed_pages.Copies copies) = map copy_key copies.now
keys_of (placed_pages.Entries entries) = map entry_key entries.now

-- the page is of chunk c of object o
abbrev pub IsPageOf : ℕ → ℕ → CommittedKey → Type 0
IsPageOf o c k = (k.key.object ≡ o) × (k.key.chunk ≡ c)

-- no two pages are of one key
abbrev pub AreOfOtherKeys : List CommittedKey → Type 0
AreOfOtherKeys ks = (i j : ℕ) (k l : CommittedKey) → i < j → slice_get ks i ≡ Some k → slice_get ks j ≡ Some l → Differs k.key.object k.key.chunk l.key.object l.key.chunk

-- each page lies in one of so many blocks
abbrev pub AreWithin : ℕ → List CommittedKey → Type 0
AreWithin blocks ks = (i : ℕ) (k : CommittedKey) → slice_get ks i ≡ Some k → k.at.block < blocks

-- each page is one of so many of its block
abbrev pub AreInPages : ℕ → List CommittedKey → Type 0
AreInPages pages ks = (i : ℕ) (k : CommittedKey) → slice_get ks i ≡ Some k → k.at.page < pages

-- each page is of a chunk that a tree may look up
abbrev pub AreLow : List CommittedKey → Type 0
AreLow ks = (i : ℕ) (k : CommittedKey) → slice_get ks i ≡ Some k → k.key.chunk < 2 ^ 32

-- the key of none of the pages has an entry
abbrev pub AreAbsent : List CommittedKey → ObjectMap → Type 0
AreAbsent ks m = (i : ℕ) (k : CommittedKey) → slice_get ks i ≡ Some k → look m k.key.object k.key.chunk ≡ None

-- The first n of the pages have their entries, and no other key's entry changes.
pub record AddsFirst (ks : List CommittedKey) (n : ℕ) (old new : ObjectMap) : Type 0 where
  pub done : (i : ℕ) (k : CommittedKey) → i < n → slice_get ks i ≡ Some k → look new k.key.object k.key.chunk ≡ Some (committed_at k.key.chunk (Some k.at))
  pub rest : (o c : ℕ) → ((i : ℕ) (k : CommittedKey) → i < n → slice_get ks i ≡ Some k → IsPageOf o c k → ⊥) → look new o c ≡ look old o c

-- No two pages are of one key, and each lies on a device of this form, in a chunk that a tree may look up.
pub record MayAdd (ks : List CommittedKey) (g : Geometry) : Type 0 where
  pub once : AreOfOtherKeys ks
  pub within : AreWithin g.blocks ks
  pub pages : AreInPages g.pages ks
  pub low : AreLow ks

-- the key of none of the pages from a place on has an entry
abbrev pub AreAbsentFrom : ℕ → List CommittedKey → ObjectMap → Type 0
AreAbsentFrom from ks m = (i : ℕ) (k : CommittedKey) → from ≤ i → slice_get ks i ≡ Some k → look m k.key.object k.key.chunk ≡ None

-- of the pages from a place on, none of this object has an entry among these
abbrev pub AreNewFrom : ℕ → List CommittedKey → ℕ → List KeyEntry → Type 0
AreNewFrom from ks o es = (i : ℕ) (k : CommittedKey) → from ≤ i → slice_get ks i ≡ Some k → k.key.object ≡ o → find_by chunk es k.key.chunk ≡ None

-- the pages from a place up to another are of the object
abbrev pub ArePagesOf : List CommittedKey → ℕ → ℕ → ℕ → Type 0
ArePagesOf ks from end o = (i : ℕ) (k : CommittedKey) → from ≤ i → i < end → slice_get ks i ≡ Some k → k.key.object ≡ o

-- The pages from a place up to another have their entries, no other key's entry changes, and what is present of a key is what is
-- committed where it was before.
pub record AddsRun (ks : List CommittedKey) (from end : ℕ) (old new : ObjectMap) : Type 0 where
  pub done : (i : ℕ) (k : CommittedKey) → from ≤ i → i < end → slice_get ks i ≡ Some k → look new k.key.object k.key.chunk ≡ Some (committed_at k.key.chunk (Some k.at))
  pub rest : (o c : ℕ) → ((i : ℕ) (k : CommittedKey) → from ≤ i → i < end → slice_get ks i ≡ Some k → IsPageOf o c k → ⊥) → look new o c ≡ look old o c
  pub same : (o c : ℕ) → same_of (look new o c) ≡ same_of (look old o c)

-- The same among the entries of one object, of which all these pages are; they are counted in their blocks.
pub record AddsChunks (ks : List CommittedKey) (from end : ℕ) (old new : List KeyEntry) (t u : Table) : Type 0 where
  pub done : (i : ℕ) (k : CommittedKey) → from ≤ i → i < end → slice_get ks i ≡ Some k → find_by chunk new k.key.chunk ≡ Some (committed_at k.key.chunk (Some k.at))
  pub rest : (c : ℕ) → ((i : ℕ) (k : CommittedKey) → from ≤ i → i < end → slice_get ks i ≡ Some k → k.key.chunk ≡ c → ⊥) → find_by chunk new c ≡ find_by chunk old c
  pub same : (c : ℕ) → same_of (find_by chunk new c) ≡ same_of (find_by chunk old c)
  pub size : length new + from ≡ length old + end
  pub counts : RecountsEntries old new t u
