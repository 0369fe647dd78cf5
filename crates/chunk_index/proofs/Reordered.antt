-- The committed keys of a block in any order.
use Rattle.std.proofs.Common.{◌≡◌, ℕ, ◌<◌, List, length, get_or, slice_get, Some, IsPermutation, cond, eqb, refl, sym, ap, subst, ◌∙◌, arith, inl, inr}
use Rattle.std.specs.List.{swap}
use Rattle.std.proofs.lemmas.Bool.{cases_eq}
use Rattle.std.proofs.lemmas.Bool.Decides.{nat_tests}
use Rattle.std.proofs.lemmas.List.Edits.{swapped_from_swap, length-swap}
use Rattle.std.proofs.lemmas.List.Sorted.{IsPermutation-sym, IsPermutation-keeps, Contains-permutation, length_permutation}
use Rattle.std.proofs.lemmas.Option.{slice_get_within, slice_get-get_or, get_or_from_slice_get}
use Rattle.chunk_index.specs.declared.form.CommittedKey.{CommittedKey}
use Rattle.chunk_index.specs.declared.index.Index.{Index}
use Rattle.chunk_index.specs.Listing.{block_keys, IsCommittedKey, HasKeysOnce}
use Rattle.chunk_index.specs.Maps.{count_committed_in}
use Rattle.chunk_index.proofs.Keys.{listed_is_committed, committed_is_listed, count_of_list}
use Rattle.chunk_index.proofs.Once.{listed_once}

-- what stands in one order stands in the other
is_in_too : (xs ys : List CommittedKey) → IsPermutation xs ys → (i : ℕ) (k : CommittedKey) → slice_get xs i ≡ Some k → (j : ℕ) × (slice_get ys j ≡ Some k)
is_in_too xs ys same i k is =
    let there = Contains-permutation xs ys k same (i, slice_get_within xs i k is, get_or_from_slice_get xs i k k is) in
    (there.0, slice_get-get_or ys there.0 k there.1 ∙ ap (λ (l : CommittedKey). Some l) there.2)

pub reordered_is_committed : (x : Index) (b : ℕ) (ks : List CommittedKey) → IsPermutation (block_keys x b) ks → (i : ℕ) (k : CommittedKey) → slice_get ks i ≡ Some k → IsCommittedKey x b k
reordered_is_committed x b ks same i k is =
    let from = is_in_too ks (block_keys x b) (IsPermutation-sym (block_keys x b) ks same) i k is in
    listed_is_committed x b from.0 k from.1

pub committed_is_reordered : (x : Index) (b : ℕ) (ks : List CommittedKey) → IsPermutation (block_keys x b) ks → (k : CommittedKey) → IsCommittedKey x b k → (i : ℕ) × (slice_get ks i ≡ Some k)
committed_is_reordered x b ks same k committed =
    let from = committed_is_listed x b k.key.object k.key.chunk k.at committed.0 committed.1 in
    is_in_too (block_keys x b) ks same from.0 k from.1

pub count_of_reordered : (x : Index) (b : ℕ) (ks : List CommittedKey) → IsPermutation (block_keys x b) ks → length ks ≡ count_committed_in x b
count_of_reordered x b ks same = length_permutation (block_keys x b) ks same ∙ count_of_list x b

-- ---- no key comes twice

-- where the element at place i stood before those at a and b changed places
abbrev place_before : ℕ → ℕ → ℕ → ℕ
place_before a b i = cond (eqb i a) b (cond (eqb i b) a i)

places_apart : (a b i j : ℕ) → place_before a b i ≡ place_before a b j → i ≡ j
places_apart a b i j same = grind (arith, nat_tests, same)

stood_before : (ks : List CommittedKey) (a b i : ℕ) (k : CommittedKey) → a < length ks → b < length ks → slice_get (swap ks a b) i ≡ Some k → slice_get ks (place_before a b i) ≡ Some k
stood_before ks a b i k la lb is =
    let moved = swapped_from_swap ks (swap ks a b) a b k la lb refl in
    let here : get_or (swap ks a b) i k ≡ k = get_or_from_slice_get (swap ks a b) i k k is in
    let within : i < length ks = omega (arith, slice_get_within (swap ks a b) i k is, length-swap ks a b) in
    let from = λ (n : ℕ) (lt : n < length ks) (e : get_or ks n k ≡ k). slice_get-get_or ks n k lt ∙ ap (λ (l : CommittedKey). Some l) e in
    elim (cases_eq i a) [
      | inl e ↦
          let at : place_before a b i ≡ b = grind (arith, nat_tests, e) in
          subst (λ n. slice_get ks n ≡ Some k) (sym at) (from b lb (sym moved.0 ∙ ap (λ n. get_or (swap ks a b) n k) (sym e) ∙ here))
      | inr na ↦ elim (cases_eq i b) [
        | inl e ↦
            let at : place_before a b i ≡ a = grind (arith, nat_tests, na, e) in
            subst (λ n. slice_get ks n ≡ Some k) (sym at) (from a la (sym moved.1 ∙ ap (λ n. get_or (swap ks a b) n k) (sym e) ∙ here))
        | inr nb ↦
            let at : place_before a b i ≡ i = grind (arith, nat_tests, na, nb) in
            subst (λ n. slice_get ks n ≡ Some k) (sym at) (from i within (sym (moved.2 i na nb) ∙ here))
      ]
    ]

once_swapped : (ks : List CommittedKey) (a b : ℕ) → a < length ks → b < length ks → HasKeysOnce ks → HasKeysOnce (swap ks a b)
once_swapped ks a b la lb once i j k l at there same =
    places_apart a b i j (once (place_before a b i) (place_before a b j) k l (stood_before ks a b i k la lb at) (stood_before ks a b j l la lb there) same)

pub reordered_once : (x : Index) (b : ℕ) (ks : List CommittedKey) → IsPermutation (block_keys x b) ks → HasKeysOnce ks
reordered_once x b ks same = IsPermutation-keeps (block_keys x b) HasKeysOnce (listed_once x b) once_swapped ks same
