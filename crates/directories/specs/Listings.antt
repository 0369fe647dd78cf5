-- The entries of a directory's first slots.
use Rattle.std.specs.Prelude.{◌≡◌, ◌≤◌, ◌+◌, ◌*◌, ℕ, List, length, map as list_map, Some, None, slice_get}
use Rattle.std.specs.FinMap as map
use Rattle.page_tags.specs.Slots.{Entry}
use Rattle.volume_terms.specs.Sizes.{Sizes, page_slots}
use Rattle.posix_profile.specs.State.{Entries}
use Rattle.flash_tree.specs.Tree.{ReadsDir}
use Rattle.pages.specs.Maps.{PageMap, has}
use Rattle.directories.specs.Directories.{Directory, SlotOf}
use Rattle.directories.specs.Stores.{ObjectIn}

-- the entry's name was new, and leads to its object from now on
pub record TakesEntry (entry : Entry) (old new : Entries) : Type 0 where
  pub put : new ≡ map.insert old entry.name entry.object
  pub was_new : map.get old entry.name ≡ None

-- these are the names of the directory that the object is
abbrev pub ReportsNames : Sizes → PageMap → ℕ → List (List ℕ) → Type 0
ReportsNames z m d names = (moment : ℕ) × (entries : Entries) × ReadsDir z (has m) d moment entries × (names ≡ map.keys entries)

-- the first n slots of the directory, in which no name is there twice, are these entries
pub record ReadsFirst (z : Sizes) (m : PageMap) (d n : ℕ) (entries : Entries) : Type 0 where
  pub slots : List Entry
  pub size : length slots ≡ n
  pub each : (k : ℕ) (e : Entry) → slice_get slots k ≡ Some e → SlotOf z m d k e
  pub once : (i j : ℕ) (a b : Entry) → slice_get slots i ≡ Some a → slice_get slots j ≡ Some b → a.name ≡ b.name → i ≡ j
  pub are : entries ≡ map.from_entries (list_map (λ entry. (entry.name, entry.object)) slots)

-- the entries are those of the slots before a chunk
abbrev pub ReadsBefore : ObjectIn → ℕ → Entries → Type 0
ReadsBefore it chunk entries = ReadsFirst it.sizes it.pages it.object (chunk * page_slots it.sizes) entries

-- the entries are those of the slots before a chunk, and of so many of its own
abbrev pub ReadsPast : ObjectIn → ℕ → ℕ → Entries → Type 0
ReadsPast it chunk count entries = ReadsFirst it.sizes it.pages it.object (chunk * page_slots it.sizes + count) entries

-- this holds of each object whose page of this chunk of slots has these bytes
abbrev pub OfPage : List ℕ → ℕ → (ObjectIn → Type 0) → Type 0
OfPage page chunk A = (z : Sizes) (m : PageMap) (d : ℕ) → m d (1 + chunk) ≡ Some page → z.page_bytes ≡ length page → A (record { sizes = z; pages = m; object = d })

-- this holds of each directory whose page of this chunk of slots has these bytes
abbrev pub OfDirPage : List ℕ → ℕ → (Directory → Type 0) → Type 0
OfDirPage page chunk A =
    (z : Sizes) (m : PageMap) (d moment : ℕ) (all : Entries) (r : ReadsDir z (has m) d moment all) → m d (1 + chunk) ≡ Some page → z.page_bytes ≡ length page
    → A (record { sizes = z; pages = m; object = d; moment = moment; entries = all; reads = r })

-- this holds where the chunk has so many slots of the directory, and the entries are those of the slots before it
abbrev pub OfChunk : Directory → ℕ → ℕ → Entries → Type 0 → Type 0
OfChunk d chunk count entries A =
    chunk * page_slots d.sizes + count ≤ length d.reads.slots → ReadsFirst d.sizes d.pages d.object (chunk * page_slots d.sizes) entries → A
