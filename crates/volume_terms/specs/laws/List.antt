-- Lists by their places: one more element at the end, a mapped list, zeros; what is found in one, and whether two are the same.
use Rattle.std.specs.Prelude.{◌≡◌, ◌⊎◌, ◌<◌, ◌+◌, ◌-◌, ℕ, zero, suc, Bool, true, false, cond, List, [], ◌∷◌, ◌++◌, length, get_or, slice_index, slice_get, replicate, map as list_map, sum_by, nat_eq, Some}
use Rattle.std.proofs.Common.{refl, sym, ◌∙◌, ap, inl, inr, arith}
use Rattle.std.proofs.lemmas.Bool.{cases_Bool, cases_lt, or_cases, eqb-true, false≢true}
use Rattle.std.proofs.lemmas.List.{get_or_append_left, get_or-append_right, get_or_past}
use Rattle.std.proofs.lemmas.List.Sums.{sum_by-cons}
use Rattle.std.proofs.lemmas.Slice.Eq.{bytes_eq-Decides}
use Rattle.std.specs.List.{list_any, find, range_with_len}
use Rattle.std.specs.Str.{bytes_eq}

-- a list has an element at each place within it
pub slice_get_there : {A : Type 0} (xs : List A) (i : ℕ) → i < length xs → (x : A) × (slice_get xs i ≡ Some x)
slice_get_there [] i lt = absurd (omega arith)
slice_get_there (x ∷ xs) zero lt = (x, refl)
slice_get_there (x ∷ xs) (suc i) lt = slice_get_there xs i (omega arith)

-- the element at a place of a longer list
pub get_push : {A : Type 0} (xs : List A) (x : A) (i : ℕ) (e : A) → slice_get (xs ++ x ∷ []) i ≡ Some e → ((i < length xs) × (slice_get xs i ≡ Some e)) ⊎ ((i ≡ length xs) × (e ≡ x))
get_push [] x zero e is = inr (refl, cc)
get_push [] x (suc i) e is = absurd cc
get_push (y ∷ ys) x zero e is = inl (omega arith, is)
get_push (y ∷ ys) x (suc i) e is = elim (get_push ys x i e is) [
  | inl before ↦ inl (omega (arith, before.0), before.1)
  | inr last ↦ inr (omega (arith, last.0), last.1)
]

-- what was in a list is in a longer one
pub push_before : {A : Type 0} (xs : List A) (x : A) (i : ℕ) (e : A) → slice_get xs i ≡ Some e → slice_get (xs ++ x ∷ []) i ≡ Some e
push_before [] x i e is = absurd cc
push_before (y ∷ ys) x zero e is = is
push_before (y ∷ ys) x (suc i) e is = push_before ys x i e is

-- the last element of a longer list
pub push_last : {A : Type 0} (xs : List A) (x : A) → slice_get (xs ++ x ∷ []) (length xs) ≡ Some x
push_last [] x = refl
push_last (y ∷ ys) x = push_last ys x

-- the element at a place of a mapped list comes from the one there
pub at_mapped : {A B : Type 0} (f : A → B) (xs : List A) (k : ℕ) (y : B) → slice_get (list_map f xs) k ≡ Some y → (x : A) × (slice_get xs k ≡ Some x) × (f x ≡ y)
at_mapped f [] k y is = absurd cc
at_mapped f (x ∷ xs) zero y is = let same : f x ≡ y = cc in (x, refl, same)
at_mapped f (x ∷ xs) (suc k) y is = at_mapped f xs k y is

-- and the one there is mapped to it
pub mapped_at : {A B : Type 0} (f : A → B) (xs : List A) (k : ℕ) (x : A) → slice_get xs k ≡ Some x → slice_get (list_map f xs) k ≡ Some (f x)
mapped_at f [] k x is = absurd cc
mapped_at f (y ∷ xs) zero x is = let same : y ≡ x = cc in ap (λ v. Some (f v)) same
mapped_at f (y ∷ xs) (suc k) x is = mapped_at f xs k x is

-- zeros are zero at each place, also past their end
pub zero_at : (n i : ℕ) → slice_index (replicate n 0) i ≡ 0
zero_at zero i = refl
zero_at (suc n) zero = refl
zero_at (suc n) (suc i) = zero_at n i

-- a list with zeros behind it has the same number at each place
pub with_zeros : (xs : List ℕ) (n i : ℕ) → get_or (xs ++ replicate n 0) i 0 ≡ get_or xs i 0
with_zeros xs n i = elim (cases_lt i (length xs)) [
  | inl less ↦ get_or_append_left xs (replicate n 0) 0 i less
  | inr more ↦ get_or-append_right xs (replicate n 0) (length xs) i 0 refl more ∙ zero_at n (i - length xs) ∙ sym (get_or_past xs i 0 more)
]

-- a sum of ones is the length
pub sum_ones : {A : Type 0} (xs : List A) → sum_by (λ _. 1) xs ≡ length xs
sum_ones [] = refl
sum_ones (x ∷ xs) = omega (arith, sum_by-cons (λ _. 1) x xs, sum_ones xs)

-- a number that is on a list has a place there
pub place_of : (xs : List ℕ) (q : ℕ) → list_any (nat_eq q) xs ≡ true → (i : ℕ) × (slice_get xs i ≡ Some q)
place_of [] q is = absurd cc
place_of (x ∷ xs) q is = elim (or_cases (nat_eq q x) (list_any (nat_eq q) xs) is) [
  | inl here ↦ (zero, ap Some (sym (eqb-true q x here)))
  | inr later ↦ let rest = place_of xs q later in (suc rest.0, rest.1)
]

-- of m numbers that follow one another, the first is found where it passes
pub find_hit : (p : ℕ → Bool) (a m k : ℕ) → m ≡ k + 1 → p a ≡ true → find p (range_with_len a m) ≡ Some a
find_hit p a m k is yes' = let more : m ≡ suc k = omega arith in ap (λ m. find p (range_with_len a m)) more ∙ ap (λ b. cond b (Some a) (find p (range_with_len (a + 1) k))) yes'

-- and where it does not, the search goes on among the others
pub find_step : (p : ℕ → Bool) (a m k : ℕ) → m ≡ k + 1 → p a ≡ false → find p (range_with_len (a + 1) k) ≡ find p (range_with_len a m)
find_step p a m k is no' = let more : m ≡ suc k = omega arith in sym (ap (λ m. find p (range_with_len a m)) more ∙ ap (λ b. cond b (Some a) (find p (range_with_len (a + 1) k))) no')

-- two lists are equal or not
pub same_or_not : (xs ys : List ℕ) → (xs ≡ ys) ⊎ ((xs ≡ ys) → ⊥)
same_or_not xs ys =
    elim (cases_Bool (bytes_eq xs ys)) [
      | inl e ↦ inl ((bytes_eq-Decides xs ys).0 e)
      | inr e ↦ inr (λ same. false≢true (sym e ∙ (bytes_eq-Decides xs ys).1 same))
    ]
