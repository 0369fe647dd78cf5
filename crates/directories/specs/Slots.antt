-- Slots of a page or of a directory, and what a search of them reports.
use Rattle.std.specs.Prelude.{◌≡◌, ◌≢◌, ◌<◌, ◌≤◌, ◌*◌, ℕ, List, take, drop, Option, Some, None}
use Rattle.volume_terms.specs.Sizes.{slot_length}
use Rattle.page_tags.specs.Slots.{Entry, slot_bytes}
use Rattle.flash_tree.specs.Slots.{IsTreeSlot}
use Rattle.directories.specs.declared.lookup.Located.{Located}

-- the bytes of slot k of a page
abbrev pub slot_in : List ℕ → ℕ → List ℕ
slot_in page k = take slot_length (drop (slot_length * k) page)

-- slot k of a page is this entry
abbrev pub SlotAt : List ℕ → ℕ → Entry → Type 0
SlotAt page k entry = IsTreeSlot entry × (slot_in page k ≡ slot_bytes entry)

-- the slot has this name and leads to the object that is returned, or it has another name and none is reported
abbrev pub NamedBy : Entry → List ℕ → Option ℕ → Type 0
NamedBy entry name None = entry.name ≢ name
NamedBy entry name (Some object) = (entry.name ≡ name) × (object ≡ entry.object)

-- each number from one to another is a slot's, where `at` says which entry a slot is
abbrev pub AreSlots : (ℕ → Entry → Type 0) → ℕ → ℕ → Type 0
AreSlots at from to = (i : ℕ) → from ≤ i → i < to → (e : Entry) × at i e

-- a slot from one number to another has the name: its number and its object
pub record IsLocated (at : ℕ → Entry → Type 0) (from to : ℕ) (name : List ℕ) (found : Located) : Type 0 where
  pub entry : Entry
  pub there : at found.place entry
  pub least : from ≤ found.place
  pub most : found.place < to
  pub name_is : entry.name ≡ name
  pub object_is : found.object ≡ entry.object

-- what is reported of a name after a search: where it is, or that each slot has another
abbrev pub Finds : (ℕ → Entry → Type 0) → ℕ → ℕ → List ℕ → Option Located → Type 0
Finds at from to name None = (i : ℕ) → from ≤ i → i < to → (e : Entry) × at i e × (e.name ≢ name)
Finds at from to name (Some found) = IsLocated at from to name found

-- this holds of the entry that the bytes of a slot are
abbrev pub OfEntry : List ℕ → (Entry → Type 0) → Type 0
OfEntry bytes A = (entry : Entry) → IsTreeSlot entry → bytes ≡ slot_bytes entry → A entry
