-- Which keys a list of changes notes.
use Rattle.std.specs.Prelude.{◌≡◌, ◌⊎◌, ◌<◌, ◌≤◌, ◌+◌, ℕ, List, length, get_or, Bool, true}
use Rattle.std.specs.Vec.{vec_len, vec_capacity}
use Rattle.flash_tree.specs.declared.place.Key.{Key}
use Rattle.chunk_index.specs.Shelves.{IsListed}
use Rattle.chunk_index.specs.declared.changes.ChangeList.{ChangeList}

-- an element of the list is of the object, and of the chunk or one before it
abbrev pub IsCut : List Key → ℕ → ℕ → Type 0
IsCut cuts o c = (i : ℕ) × (i < length cuts) × ((d : Key) → ((get_or cuts i d).object ≡ o) × ((get_or cuts i d).chunk ≤ c))

-- the key is in one list, or cut in the other, or all keys are noted
abbrev pub IsNotedBy : List Key → List Key → Bool → ℕ → ℕ → Type 0
IsNotedBy keys cuts all o c = IsListed keys o c ⊎ IsCut cuts o c ⊎ (all ≡ true)

-- the key is noted: alone, with all chunks of its object from one on, or with all keys
abbrev pub IsNoted : ChangeList → ℕ → ℕ → Type 0
IsNoted x = IsNotedBy x.keys.items x.cuts.items x.has_all

-- no key is noted
abbrev pub NotesNone : ChangeList → Type 0
NotesNone x = (o c : ℕ) → IsNoted x o c → ⊥

-- there is room for so many notes more of each kind
abbrev pub HasRoomFor : ℕ → ChangeList → Type 0
HasRoomFor n x = (vec_len x.keys + n ≤ vec_capacity x.keys) × (vec_len x.cuts + n ≤ vec_capacity x.cuts)

-- what was noted still is
abbrev pub KeepsNotes : ChangeList → ChangeList → Type 0
KeepsNotes old new = (o c : ℕ) → ∥ IsNoted old o c ∥₁ → ∥ IsNoted new o c ∥₁
