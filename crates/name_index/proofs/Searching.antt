-- A search by halves in numbers that rise.
use Rattle.std.proofs.Common.{◌≡◌, ℕ, ◌<◌, ◌≤◌, List, length, get_or, Some, None, Ok, Err, sym, ap, ◌∙◌, arith, inl, inr}
use Rattle.std.specs.List.Sorted.{IsBinarySearchResult}
use Rattle.std.specs.Ordering.{nat_cmp}
use Rattle.std.proofs.lemmas.Bool.{cases_lt}
use Rattle.std.proofs.lemmas.List.{get_or_default}
use Rattle.std.proofs.lemmas.List.Sorted.{searched}
use Rattle.name_index.specs.Lists.{Rises, IsIn, IsNextFrom}

pub rises_le : (xs : List ℕ) → Rises xs → (i j : ℕ) → i ≤ j → j < length xs → get_or xs i 0 ≤ get_or xs j 0
rises_le xs rises i j le within = elim (cases_lt i j) [
  | inl lt ↦ let r : get_or xs i 0 < get_or xs j 0 = rises i j lt within in omega (arith, r)
  | inr ge ↦
      let e : i ≡ j = omega (arith, le, ge) in
      let same : get_or xs i 0 ≡ get_or xs j 0 = ap (λ k. get_or xs k 0) e in
      omega (arith, same)
]

-- the number stands at a place
pub record IsAt (xs : List ℕ) (x at : ℕ) : Type 0 where
  pub within : at < length xs
  pub is : get_or xs at 0 ≡ x

-- the number would stand at a place, and is not there
pub record IsGap (xs : List ℕ) (x at : ℕ) : Type 0 where
  pub within : at ≤ length xs
  pub lesser : (k : ℕ) → k < at → get_or xs k 0 < x
  pub greater : (k : ℕ) → at ≤ k → k < length xs → x < get_or xs k 0

module _ (xs : List ℕ) (rises : Rises xs) (x at : ℕ) where
  pub found : IsBinarySearchResult (λ y. nat_cmp y x) xs (Ok at) → IsAt xs x at
  found result = let s = searched xs x (Ok at) result (rises_le xs rises) in record { within = s.0; is = s.1 }

  pub gap : IsBinarySearchResult (λ y. nat_cmp y x) xs (Err at) → IsGap xs x at
  gap result = let s = searched xs x (Err at) result (rises_le xs rises) in record { within = s.0; lesser = s.1; greater = s.2 }

  -- a number that is there is the least from itself on
  pub next_found : IsAt xs x at → (v : ℕ) → v ≡ get_or xs at v → IsNextFrom (IsIn xs) x (Some v)
  next_found is v e =
      let here : v ≡ x = e ∙ get_or_default xs at v 0 is.within ∙ is.is in
      ((at, is.within, is.is ∙ sym here), omega (arith, here), λ y le there. omega (arith, here, le))

  -- in a gap it is the one that stands there
  pub next_gap : IsGap xs x at → (v : ℕ) → v ≡ get_or xs at v → at < length xs → IsNextFrom (IsIn xs) x (Some v)
  next_gap is v e lt =
      let here : get_or xs at 0 ≡ v = sym (e ∙ get_or_default xs at v 0 lt) in
      let more : x < get_or xs at 0 = is.greater at (omega arith) lt in (
        (at, lt, here),
        omega (arith, here, more),
        λ y le there.
            let equal : get_or xs there.0 0 ≡ y = there.2 in
            elim (cases_lt there.0 at) [
              | inl below ↦ let less : get_or xs there.0 0 < x = is.lesser there.0 below in absurd (omega (arith, less, equal, le))
              | inr above ↦ let up : get_or xs at 0 ≤ get_or xs there.0 0 = rises_le xs rises at there.0 above there.1 in omega (arith, up, equal, here)
            ],
      )

  -- behind the last there is none
  pub next_end : IsGap xs x at → length xs ≤ at → IsNextFrom (IsIn xs) x None
  next_end is end y le there =
      let within : there.0 < length xs = there.1 in
      let less : get_or xs there.0 0 < x = is.lesser there.0 (omega (arith, within, end)) in
      let equal : get_or xs there.0 0 ≡ y = there.2 in
      omega (arith, less, equal, le)
