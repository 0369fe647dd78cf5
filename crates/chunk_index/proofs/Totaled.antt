-- A list of keys of a block that is as long as the block's count has them all.
use Rattle.std.specs.Prelude.{◌≡◌, ◌<◌, ℕ, zero, suc, true, false, List, [], ◌∷◌, length, slice_get, get_or, Some, nat_eq}
use Rattle.std.specs.List.{list_any, IsDistinct}
use Rattle.std.proofs.Common.{refl, sym, ◌∙◌, ap, subst, arith, inl, inr}
use Rattle.std.proofs.lemmas.Bool.{cases_Bool, false≢true, or_left, or_right, eq-eqb, ne_eqb}
use Rattle.std.proofs.lemmas.Map.Keys.{IsDistinct-from_apart}
use Rattle.std.proofs.lemmas.Map.Steps.{length-le_from_distinct_below}
use Rattle.std.proofs.lemmas.Option.{get_or_from_slice_get, slice_get_within}
use Rattle.volume_terms.specs.laws.List.{place_of, slice_get_there}
use Rattle.chunk_index.specs.declared.form.CommittedKey.{CommittedKey}
use Rattle.chunk_index.specs.declared.index.Index.{Index}
use Rattle.chunk_index.specs.Listing.{block_keys, IsCommittedKey, HasKeysOnce}
use Rattle.chunk_index.specs.Maps.{count_committed_in}
use Rattle.chunk_index.proofs.Keys.{committed_is_listed, count_of_list}

-- ---- numbers of which none comes twice

-- two places of one number are one place
abbrev Once : List ℕ → Type 0
Once xs = (i j q : ℕ) → slice_get xs i ≡ Some q → slice_get xs j ≡ Some q → i ≡ j

distinct : (xs : List ℕ) → Once xs → IsDistinct nat_eq xs
distinct xs once = IsDistinct-from_apart nat_eq xs (λ i j d before within.
    let x = slice_get_there xs i (omega (arith, before, within)) in
    let y = slice_get_there xs j within in
    let first : get_or xs i d ≡ x.0 = get_or_from_slice_get xs i x.0 d x.1 in
    let second : get_or xs j d ≡ y.0 = get_or_from_slice_get xs j y.0 d y.1 in
    ne_eqb (get_or xs i d) (get_or xs j d) (λ same.
    let at : slice_get xs i ≡ Some y.0 = x.1 ∙ ap Some (sym first ∙ same ∙ second) in
    let one : i ≡ j = once i j y.0 at y.1 in
    omega (arith, one, before)))

member : (xs : List ℕ) (i q : ℕ) → slice_get xs i ≡ Some q → list_any (nat_eq q) xs ≡ true
member [] i q is = absurd cc
member (x ∷ xs) zero q is = let same : x ≡ q = cc in or_left (nat_eq q x) (list_any (nat_eq q) xs) (eq-eqb q x (sym same))
member (x ∷ xs) (suc i) q is = or_right (nat_eq q x) (list_any (nat_eq q) xs) (member xs i q is)

-- one more that is not among them
once_more : (q : ℕ) (xs : List ℕ) → list_any (nat_eq q) xs ≡ false → Once xs → Once (q ∷ xs)
once_more q xs not once zero zero p at there = refl
once_more q xs not once zero (suc j) p at there = let same : q ≡ p = cc in absurd (false≢true (sym not ∙ member xs j q (there ∙ ap Some (sym same))))
once_more q xs not once (suc i) zero p at there = let same : q ≡ p = cc in absurd (false≢true (sym not ∙ member xs i q (at ∙ ap Some (sym same))))
once_more q xs not once (suc i) (suc j) p at there = ap suc (once i j p at there)

-- ---- the places of keys in another list

module _ (zs : List CommittedKey) where
  abbrev AreIn : List CommittedKey → Type 0
  AreIn ks = (i : ℕ) (k : CommittedKey) → slice_get ks i ≡ Some k → (j : ℕ) × (slice_get zs j ≡ Some k)

  places : (ks : List CommittedKey) → AreIn ks → List ℕ
  places [] are_in = []
  places (k ∷ ks) are_in = (are_in 0 k refl).0 ∷ places ks (λ i l at. are_in (suc i) l at)

  length-places : (ks : List CommittedKey) (are_in : AreIn ks) → length (places ks are_in) ≡ length ks
  unfolding places
  length-places [] are_in = refl
  length-places (k ∷ ks) are_in = ap suc (length-places ks (λ i l at. are_in (suc i) l at))

  place_at : (ks : List CommittedKey) (are_in : AreIn ks) (i j : ℕ) → slice_get (places ks are_in) i ≡ Some j → (k : CommittedKey) × (slice_get ks i ≡ Some k) × (slice_get zs j ≡ Some k)
  unfolding places
  place_at [] are_in i j at = absurd cc
  place_at (k ∷ ks) are_in zero j at = let same : (are_in 0 k refl).0 ≡ j = cc in (k, refl, subst (λ n. slice_get zs n ≡ Some k) same (are_in 0 k refl).1)
  place_at (k ∷ ks) are_in (suc i) j at = place_at ks (λ n l is. are_in (suc n) l is) i j at

module _ (x : Index) (b : ℕ) (ks : List CommittedKey) (each : (i : ℕ) (k : CommittedKey) → slice_get ks i ≡ Some k → IsCommittedKey x b k) (once : HasKeysOnce ks) (count : length ks ≡ count_committed_in x b) where
  abbrev all : List CommittedKey
  all = block_keys x b

  are_in : AreIn all ks
  are_in i k at = let committed = each i k at in committed_is_listed x b k.key.object k.key.chunk k.at committed.0 committed.1

  abbrev xs : List ℕ
  xs = places all ks are_in

  one_place : Once xs
  one_place i j q at there =
      let first = place_at all ks are_in i q at in
      let then = place_at all ks are_in j q there in
      let both : Some first.0 ≡ Some then.0 = sym first.2 ∙ then.2 in
      let same : first.0 ≡ then.0 = cc in
      once i j first.0 then.0 first.1 then.1 (ap (λ (k : CommittedKey). k.key) same)

  -- each place among all is that of a key of the list
  taken : (j : ℕ) → j < length all → list_any (nat_eq j) xs ≡ true
  taken j lt = elim (cases_Bool (list_any (nat_eq j) xs)) [
    | inl is ↦ is
    | inr not ↦
        let below : (q : ℕ) → list_any (nat_eq q) (j ∷ xs) ≡ true → q < length all = λ q is. within q (place_of (j ∷ xs) q is) in
        let within_limit = length-le_from_distinct_below (j ∷ xs) (length all) (distinct (j ∷ xs) (once_more j xs not one_place)) below in
        let same : length xs ≡ length ks = length-places all ks are_in in
        absurd (omega (arith, within_limit, same, count, count_of_list x b))
  ] where
    within : (q : ℕ) → (i : ℕ) × (slice_get (j ∷ xs) i ≡ Some q) → q < length all
    within q (zero, at) = let same : j ≡ q = cc in omega (arith, same, lt)
    within q (suc i, at) = let there = place_at all ks are_in i q at in slice_get_within all q there.0 there.2

  pub counted_is_listed : (k : CommittedKey) → IsCommittedKey x b k → (i : ℕ) × (slice_get ks i ≡ Some k)
  counted_is_listed k committed =
      let at = committed_is_listed x b k.key.object k.key.chunk k.at committed.0 committed.1 in
      let from = place_of xs at.0 (taken at.0 (slice_get_within all at.0 k at.1)) in
      let there = place_at all ks are_in from.0 at.0 from.1 in
      let both : Some there.0 ≡ Some k = sym there.2 ∙ at.1 in
      let same : there.0 ≡ k = cc in
      (from.0, there.1 ∙ ap Some same)
