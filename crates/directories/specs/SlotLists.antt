-- The list of a directory's slots after a change, and the pages of it that the change writes.
use Rattle.std.specs.Prelude.{◌≡◌, ◌≢◌, ◌⊎◌, ℕ, ◌+◌, ◌-◌, ◌*◌, List, [], ◌∷◌, ◌++◌, length, take, drop, set, replicate, flat_map, Some, slice_get}
use Rattle.page_tags.specs.Slots.{Entry, slot_bytes}
use Rattle.volume_terms.specs.Sizes.{Sizes, page_slots}
use Rattle.posix_profile.specs.State.{Entries}
use Rattle.pages.specs.Maps.{IsPageOf}
use Rattle.pages.specs.State.{PagesState}
use Rattle.pages.specs.declared.change.Change.{Change}
use Rattle.directories.specs.Directories.{DirIn}

-- the bytes of page c of a directory with these slots: those that are on it, in their order, and zeros behind them
abbrev pub slots_page : Sizes → List Entry → ℕ → List ℕ
slots_page z slots c =
    let bytes : List ℕ = flat_map slot_bytes (take (page_slots z) (drop (c * page_slots z) slots)) in
    bytes ++ replicate (z.page_bytes - length bytes) 0

-- each page of the directory's slots that the change writes is that of this list
abbrev pub WritesSlots : Sizes → Change → ℕ → List Entry → Type 0
WritesSlots z change d slots = (c i : ℕ) → (of : IsPageOf change.pages.items d (1 + c) i) → of.page.bytes.items ≡ slots_page z slots c

-- the entry stands behind all
abbrev pub IsPushed : Entry → List Entry → List Entry → Type 0
IsPushed entry old new = new ≡ old ++ entry ∷ []

-- the entry is in place of the one with its name, or behind all where none has it
abbrev pub IsPut : Entry → List Entry → List Entry → Type 0
IsPut entry old new =
    ((i : ℕ) × (e : Entry) × (slice_get old i ≡ Some e) × (e.name ≡ entry.name) × (new ≡ set old i entry))
    ⊎ (((i : ℕ) (e : Entry) → slice_get old i ≡ Some e → e.name ≢ entry.name) × IsPushed entry old new)

-- the entry with the name is gone: the last one is in its place, and there is one less
pub record IsWithout (name : List ℕ) (old new : List Entry) : Type 0 where
  pub place : ℕ
  pub entry : Entry
  pub there : slice_get old place ≡ Some entry
  pub name_is : entry.name ≡ name
  pub last : Entry
  pub behind : slice_get old (length old - 1) ≡ Some last
  pub new_is : new ≡ take (length old - 1) (set old place last)

-- the entry with the name is gone, and then this one is put
abbrev pub IsMoved : List ℕ → Entry → List Entry → List Entry → Type 0
IsMoved from entry old new = (mid : List Entry) × IsWithout from old mid × IsPut entry mid new

-- where the object is a directory, the change writes the pages of a list of slots that follows so from the one there was
abbrev pub Rewrites : PagesState → ℕ → (List Entry → List Entry → Type 0) → Change → Type 0
Rewrites p o Follows change =
    (z : Sizes) (before : ℕ) (entries : Entries) (d : DirIn p z o before entries) → (new : List Entry) × Follows d.reads.slots new × WritesSlots z change o new
