-- A set of numbers in runs.
use Rattle.std.specs.Prelude.{◌≡◌, ◌<◌, ◌≤◌, ◌↔◌, ℕ, Bool, IsTrue, Option, Some, None, IsSome, length, slice_index}
use Rattle.std.specs.Ordering.{nat_cmp}
use Rattle.std.specs.BTreeMap.{BTreeMap, get}
use Rattle.name_index.specs.Lists.{IsIn, IsNextFrom}
use Rattle.name_index.specs.Halves.{IsUpperPart}
use Rattle.name_index.specs.Standings.{IsStanding}
use Rattle.name_index.specs.declared.run.Run.{Run}
use Rattle.name_index.specs.declared.standing.Standing.{Standing}

-- the runs by the numbers that they begin at
abbrev pub RunMap : Type 0
RunMap = BTreeMap ℕ Run

-- a run has the number
abbrev pub Has : RunMap → ℕ → Type 0
Has m x = (k : ℕ) × (r : Run) × (get nat_cmp m k ≡ Some r) × IsIn r.numbers.items x

-- each number of a run lies from where the run begins on, and before where a later one begins
pub record IsTiled (m : RunMap) : Type 0 where
  pub from : (k x : ℕ) (r : Run) → get nat_cmp m k ≡ Some r → IsIn r.numbers.items x → k ≤ x
  pub before : (k j x : ℕ) (r : Run) → get nat_cmp m k ≡ Some r → IsIn r.numbers.items x → IsSome (get nat_cmp m j) → k < j → x < j

-- the last run that begins at a number or before it, or none where none does
abbrev pub IsLastBegun : RunMap → ℕ → Option ℕ → Type 0
IsLastBegun m x None = (k : ℕ) → k ≤ x → get nat_cmp m k ≡ None
IsLastBegun m x (Some at) = IsSome (get nat_cmp m at) × (at ≤ x) × ((k : ℕ) → k ≤ x → IsSome (get nat_cmp m k) → k ≤ at)

-- the number stands so to the run that begins at another
abbrev pub StandsTo : RunMap → ℕ → ℕ → Standing → Type 0
StandsTo m at x standing = (r : Run) × (get nat_cmp m at ≡ Some r) × IsStanding r.numbers.items x standing

-- the last run that begins at a number or before it, and how the number stands to it, or none where none does
abbrev pub IsHome : RunMap → ℕ → Option (ℕ × Standing) → Type 0
IsHome m x None = IsLastBegun m x None
IsHome m x (Some home) = IsLastBegun m x (Some home.0) × StandsTo m home.0 x home.1

-- a run begins at a number or before it
abbrev pub HasBegun : RunMap → ℕ → Type 0
HasBegun m x = (k : ℕ) × (k ≤ x) × IsSome (get nat_cmp m k)

-- the upper part of the run that begins at a number, if it is to be divided
abbrev pub IsUpperOf : RunMap → ℕ → Option Run → Type 0
IsUpperOf m at None = Unit {0}
IsUpperOf m at (Some upper) = (r : Run) × (get nat_cmp m at ≡ Some r) × IsUpperPart r.numbers.items (Some upper)

-- the number is the only one of the run that begins at another
abbrev pub IsOnlyOf : RunMap → ℕ → ℕ → Type 0
IsOnlyOf m at x = (r : Run) × (get nat_cmp m at ≡ Some r) × (length r.numbers.items ≡ 1) × (slice_index r.numbers.items 0 ≡ x)

-- the last run that begins at a number or before it, and whether the number is the only one of it, or none where none does
abbrev pub IsRemoval : RunMap → ℕ → Option (ℕ × Bool) → Type 0
IsRemoval m x None = IsLastBegun m x None
IsRemoval m x (Some run) = IsLastBegun m x (Some run.0) × (IsTrue run.1 ↔ IsOnlyOf m run.0 x)

-- no run that begins at a number or before it has a number from there on
abbrev pub HasNoneOf : RunMap → ℕ → Type 0
HasNoneOf m x = (k y : ℕ) (q : Run) → get nat_cmp m k ≡ Some q → k ≤ x → IsIn q.numbers.items y → x ≤ y → ⊥

-- the least number from one on, or none where no run that begins at it or before it has one
abbrev pub IsNextWithin : RunMap → ℕ → Option ℕ → Type 0
IsNextWithin m from None = HasNoneOf m from
IsNextWithin m from (Some x) = IsNextFrom (Has m) from (Some x)

-- the least number of the runs that begin beyond a number, or none where none begins there
abbrev pub IsFirstBeyond : RunMap → ℕ → Option ℕ → Type 0
IsFirstBeyond m from None = (k : ℕ) → from < k → get nat_cmp m k ≡ None
IsFirstBeyond m from (Some x) = (k : ℕ) × (r : Run) × (get nat_cmp m k ≡ Some r) × (from < k) × ((j : ℕ) → from < j → IsSome (get nat_cmp m j) → k ≤ j) × (slice_index r.numbers.items 0 ≡ x)
