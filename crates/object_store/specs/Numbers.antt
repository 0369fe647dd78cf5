-- Which numbers are free.
use Rattle.std.specs.Prelude.{◌≡◌, ◌≤◌, ◌&&◌, ℕ, Bool, false, not, List, [], ◌∷◌, cond, nat_eq, nat_le, nat_lt}
use Rattle.std.specs.List.{sum_by}
use Rattle.std.specs.declared.cmp.Reverse.{Reverse}
use Rattle.std.specs.BinaryHeap.{heap_items}
use Rattle.object_store.specs.declared.free_numbers.FreeNumbers.{FreeNumbers}

-- how often a number is in the list
abbrev pub times : ℕ → List (Reverse ℕ) → ℕ
times n xs = sum_by (λ (r : Reverse ℕ). cond (nat_eq n r.0) 1 0) xs

-- whether a number was given back: it is from 2 up, below the mark, and not taken
abbrev pub was_given_back : (ℕ → Bool) → ℕ → ℕ → Bool
was_given_back taken low n = nat_le 2 n && nat_lt n low && not (taken n)

-- Those that are given back are the numbers from 2 up below the mark that are not taken, each once; nor is the mark taken.
pub record KnowsFree (numbers : FreeNumbers) (taken : ℕ → Bool) : Type 0 where
  pub freed : (n : ℕ) → times n (heap_items numbers.freed) ≡ cond (was_given_back taken numbers.low n) 1 0
  pub low : 2 ≤ numbers.low
  pub mark : taken numbers.low ≡ false

-- the number that comes first
abbrev pub first_or : List (Reverse ℕ) → ℕ → ℕ
first_or [] low = low
first_or (r ∷ rs) low = r.0

-- the number that is reported to be next
abbrev pub next_number : FreeNumbers → ℕ
next_number numbers = first_or (heap_items numbers.freed) numbers.low
