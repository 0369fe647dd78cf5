-- Numbers that a test picks are no more than it picks.
use Rattle.std.specs.Prelude.{◌≡◌, ◌<◌, ◌≤◌, ℕ, zero, suc, ◌+◌, Bool, true, List, length, filter, slice_get, get_or, Some, count_by, nat_eq}
use Rattle.std.specs.List.{list_any, range_with_len, IsDistinct}
use Rattle.std.proofs.Common.{sym, ◌∙◌, ap, subst, inl, inr, arith}
use Rattle.std.proofs.lemmas.Bool.{cases_eq, or_left, or_right, eq-eqb, eqb-true, ne_eqb, and_from}
use Rattle.std.proofs.lemmas.List.Sums.{length-filter}
use Rattle.std.proofs.lemmas.Map.Made.{length-le_from_is_member, is_member-filter}
use Rattle.std.proofs.lemmas.Map.Keys.{IsDistinct-from_apart}
use Rattle.std.specs.Cmp.{nat_eq_equiv}
use Rattle.std.proofs.lemmas.Option.{get_or_from_slice_get}
use Rattle.volume_terms.specs.laws.List.{place_of, slice_get_there}

on_range : (n a q : ℕ) → a ≤ q → q < a + n → list_any (nat_eq q) (range_with_len a n) ≡ true
on_range zero a q low high = absurd (omega arith)
on_range (suc n) a q low high = elim (cases_eq q a) [
  | inl here ↦ or_left (nat_eq q a) (list_any (nat_eq q) (range_with_len (a + 1) n)) (eq-eqb q a here)
  | inr other ↦ or_right (nat_eq q a) (list_any (nat_eq q) (range_with_len (a + 1) n)) (on_range n (a + 1) q (omega arith) (omega arith))
]

-- a list in which nothing stands twice
distinct : (xs : List ℕ) → ((i j b : ℕ) → slice_get xs i ≡ Some b → slice_get xs j ≡ Some b → i ≡ j) → IsDistinct nat_eq xs
distinct xs once = IsDistinct-from_apart nat_eq xs (λ i j d before within.
    let x = slice_get_there xs i (omega (arith, before, within)) in
    let y = slice_get_there xs j within in
    let first : get_or xs i d ≡ x.0 = get_or_from_slice_get xs i x.0 d x.1 in
    let second : get_or xs j d ≡ y.0 = get_or_from_slice_get xs j y.0 d y.1 in
    ne_eqb (get_or xs i d) (get_or xs j d) (λ same.
    let at : slice_get xs i ≡ Some y.0 = x.1 ∙ ap Some (sym first ∙ same ∙ second) in
    let one : i ≡ j = once i j y.0 at y.1 in
    omega (arith, one, before)))

-- different numbers below n that a test picks are no more than it picks of these
pub few_picked : (f : ℕ → Bool) (n : ℕ) (xs : List ℕ) → ((i j b : ℕ) → slice_get xs i ≡ Some b → slice_get xs j ≡ Some b → i ≡ j)
    → ((i b : ℕ) → slice_get xs i ≡ Some b → (b < n) × (f b ≡ true)) → length xs ≤ count_by f (range_with_len 0 n)
few_picked f n xs once each = subst (λ k. length xs ≤ k) (length-filter f (range_with_len 0 n))
    (length-le_from_is_member nat_eq_equiv xs (filter f (range_with_len 0 n)) (distinct xs once) member) where
      member : (q : ℕ) → list_any (nat_eq q) xs ≡ true → list_any (nat_eq q) (filter f (range_with_len 0 n)) ≡ true
      member q is =
          let at = place_of xs q is in
          let of = each at.0 q at.1 in
          is_member-filter nat_eq_equiv f q (λ x same. ap f (eqb-true q x same)) (range_with_len 0 n)
          ∙ and_from (list_any (nat_eq q) (range_with_len 0 n)) (f q) (on_range n 0 q (omega arith) (omega (arith, of.0))) of.1
