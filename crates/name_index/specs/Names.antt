-- The hashes of names that an index holds.
use Rattle.std.specs.Prelude.{◌≡◌, ◌≢◌, ◌⊎◌, ◌≤◌, ℕ, Option, Some, None}
use Rattle.std.specs.Ordering.{nat_cmp}
use Rattle.std.specs.BTreeMap.{get}
use Rattle.name_index.specs.Sets.{Has}
use Rattle.name_index.specs.Packing.{hash_of, slot_of}
use Rattle.name_index.specs.declared.set.NumberSet.{NumberSet}
use Rattle.name_index.specs.declared.index.NameIndex.{NameIndex}

-- the slot of the directory is held under the hash
abbrev pub Holds : NameIndex → ℕ → ℕ → ℕ → Type 0
Holds index directory hash slot = (numbers : NumberSet) × (get nat_cmp index.directories directory ≡ Some numbers)
    × (x : ℕ) × Has numbers.runs x × (hash_of x ≡ hash) × (slot_of x ≡ slot)

-- an index holds what another holds, and nothing else
pub record HoldsSame (old new : NameIndex) : Type 0 where
  pub stays : (d h s : ℕ) → Holds old d h s → Holds new d h s
  pub only : (d h s : ℕ) → Holds new d h s → Holds old d h s

-- it holds this too, and nothing else
pub record AddsName (directory hash slot : ℕ) (old new : NameIndex) : Type 0 where
  pub there : Holds new directory hash slot
  pub stays : (d h s : ℕ) → Holds old d h s → Holds new d h s
  pub only : (d h s : ℕ) → Holds new d h s → ((d ≡ directory) × (h ≡ hash) × (s ≡ slot)) ⊎ Holds old d h s

-- it holds what the other holds, without this
pub record DropsName (directory hash slot : ℕ) (old new : NameIndex) : Type 0 where
  pub gone : Holds new directory hash slot → ⊥
  pub stays : (d h s : ℕ) → (d ≢ directory) ⊎ (h ≢ hash) ⊎ (s ≢ slot) → Holds old d h s → Holds new d h s
  pub only : (d h s : ℕ) → Holds new d h s → Holds old d h s

-- it holds what the other holds of the other directories
pub record DropsDirectory (directory : ℕ) (old new : NameIndex) : Type 0 where
  pub gone : (h s : ℕ) → Holds new directory h s → ⊥
  pub stays : (d h s : ℕ) → d ≢ directory → Holds old d h s → Holds new d h s
  pub only : (d h s : ℕ) → Holds new d h s → Holds old d h s

-- the first slot from a number on that is held under the hash, or none where none is
abbrev pub IsNextSlot : NameIndex → ℕ → ℕ → ℕ → Option ℕ → Type 0
IsNextSlot index directory hash from None = (s : ℕ) → from ≤ s → Holds index directory hash s → ⊥
IsNextSlot index directory hash from (Some slot) = Holds index directory hash slot × (from ≤ slot)
    × ((s : ℕ) → from ≤ s → Holds index directory hash s → slot ≤ s)
