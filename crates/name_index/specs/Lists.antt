-- Lists of numbers as sets, and the least number of a set from one on.
use Rattle.std.specs.Prelude.{◌≡◌, ◌≢◌, ◌⊎◌, ◌<◌, ◌≤◌, ℕ, List, length, slice_index, Option, Some, None}

-- the numbers rise, so that none comes twice
abbrev pub Rises : List ℕ → Type 0
Rises xs = (i j : ℕ) → i < j → j < length xs → slice_index xs i < slice_index xs j

-- the number is in the list
abbrev pub IsIn : List ℕ → ℕ → Type 0
IsIn xs x = (i : ℕ) × (i < length xs) × (slice_index xs i ≡ x)

-- a set has this number and what another set has, and nothing else
pub record Adds (x : ℕ) (old new : ℕ → Type 0) : Type 0 where
  pub there : new x
  pub stays : (y : ℕ) → old y → new y
  pub only : (y : ℕ) → new y → (y ≡ x) ⊎ old y

-- a set has what another set has, without this number
pub record Drops (x : ℕ) (old new : ℕ → Type 0) : Type 0 where
  pub gone : new x → ⊥
  pub stays : (y : ℕ) → y ≢ x → old y → new y
  pub only : (y : ℕ) → new y → old y

-- two sets have the same numbers
pub record SameNumbers (old new : ℕ → Type 0) : Type 0 where
  pub stays : (y : ℕ) → old y → new y
  pub only : (y : ℕ) → new y → old y

-- the least number of a set that is at least `from`, or none where there is none
abbrev pub IsNextFrom : (ℕ → Type 0) → ℕ → Option ℕ → Type 0
IsNextFrom has from None = (y : ℕ) → from ≤ y → has y → ⊥
IsNextFrom has from (Some x) = has x × (from ≤ x) × ((y : ℕ) → from ≤ y → has y → x ≤ y)
