-- No key is listed twice.
use Rattle.std.proofs.Common.{◌≡◌, ℕ, zero, suc, ◌<◌, List, [], ◌∷◌, ◌++◌, length, get_or, slice_get, Option, Some, None, if◌then◌else◌, ◌==◌, refl, sym, ap, ◌∙◌, arith, inl, inr}
use Rattle.std.specs.List.{AllByRecursion}
use Rattle.std.specs.List.Sorted.{IsStrictlySortedBy}
use Rattle.std.specs.Map.{keys_of}
use Rattle.std.specs.Option.{option_map_or}
use Rattle.std.specs.Ordering.{nat_cmp}
use Rattle.std.specs.declared.cmp.Ordering.TheVariants.{Less}
use Rattle.std.proofs.lemmas.Bool.{cases_eq}
use Rattle.std.proofs.lemmas.Bool.Decides.{nat_tests}
use Rattle.std.proofs.lemmas.Cmp.{ranked}
use Rattle.std.proofs.lemmas.Map.Keys.{sorted_head, sorted_tail}
use Rattle.flash_tree.specs.declared.place.Key.{Key}
use Rattle.chunk_index.specs.declared.form.CommittedPage.{CommittedPage}
use Rattle.chunk_index.specs.declared.form.CommittedKey.{CommittedKey}
use Rattle.chunk_index.specs.declared.entry.KeyEntry.{KeyEntry}
use Rattle.chunk_index.specs.declared.object.ObjectEntries.{ObjectEntries}
use Rattle.chunk_index.specs.declared.index.Index.{Index}
use Rattle.chunk_index.specs.Lists.{Rises}
use Rattle.chunk_index.specs.Entries.{chunk}
use Rattle.chunk_index.specs.Listing.{key_in, keys_of as keys_of_object, keys_in, block_keys, HasKeysOnce}
use Rattle.chunk_index.proofs.Keys.{each_append}

-- no key of one list is in the other
abbrev AreApart : List CommittedKey → List CommittedKey → Type 0
AreApart xs ys = (i j : ℕ) (k l : CommittedKey) → slice_get xs i ≡ Some k → slice_get ys j ≡ Some l → k.key ≡ l.key → ⊥

-- one key more, in front
once_cons : (x : CommittedKey) (ks : List CommittedKey) → ((j : ℕ) (l : CommittedKey) → slice_get ks j ≡ Some l → x.key ≡ l.key → ⊥) → HasKeysOnce ks → HasKeysOnce (x ∷ ks)
once_cons x ks first rest zero zero k l at there same = refl
once_cons x ks first rest zero (suc j) k l at there same =
    let is : x ≡ k = cc in
    absurd (first j l there (ap (λ (y : CommittedKey). y.key) is ∙ same))
once_cons x ks first rest (suc i) zero k l at there same =
    let is : x ≡ l = cc in
    absurd (first i k at (ap (λ (y : CommittedKey). y.key) is ∙ sym same))
once_cons x ks first rest (suc i) (suc j) k l at there same = ap suc (rest i j k l at there same)

once_append : (xs ys : List CommittedKey) → HasKeysOnce xs → HasKeysOnce ys → AreApart xs ys → HasKeysOnce (xs ++ ys)
once_append [] ys one two apart = two
once_append (x ∷ xs) ys one two apart = once_cons x (xs ++ ys)
    (each_append (λ l. x.key ≡ l.key → ⊥) xs ys
    (λ j l at same. let both : 0 ≡ suc j = one 0 (suc j) x l refl at same in absurd (omega (arith, both)))
    (λ j l at same. apart 0 j x l refl at same))
    (once_append xs ys (λ i j k l at there same. let both : suc i ≡ suc j = one (suc i) (suc j) k l at there same in omega (arith, both)) two
    (λ i j k l at there same. apart (suc i) j k l at there same))

-- the list of one entry has it alone, if at all
key_in_is : (b o : ℕ) (e : KeyEntry) (i : ℕ) (k : CommittedKey) → slice_get (key_in b o e) i ≡ Some k → (i ≡ 0) × (k.key.object ≡ o) × (k.key.chunk ≡ chunk e)
key_in_is b o e i k is = go e.committed refl where
  go : (p : Option CommittedPage) → e.committed ≡ p → (i ≡ 0) × (k.key.object ≡ o) × (k.key.chunk ≡ chunk e)
  go None none =
      let nothing : key_in b o e ≡ [] = ap (λ q. option_map_or (λ p. if p.block == b then record { key = record { object = o; chunk = e.chunk }; at = p } ∷ [] else []) q []) none in
      let both : None ≡ Some k = sym (ap (λ ks. slice_get ks i) nothing) ∙ is in
      absurd cc
  go (Some p) some =
      let this : CommittedKey = record { key = record { object = o; chunk = e.chunk }; at = p } in
      let listed : key_in b o e ≡ (if p.block == b then this ∷ [] else []) = ap (λ q. option_map_or (λ p. if p.block == b then record { key = record { object = o; chunk = e.chunk }; at = p } ∷ [] else []) q []) some in
      elim (cases_eq p.block b) [
        | inr ne ↦
            let none : (if p.block == b then this ∷ [] else []) ≡ [] = grind (arith, nat_tests, ne) in
            let both : None ≡ Some k = sym (ap (λ ks. slice_get ks i) (listed ∙ none)) ∙ is in
            absurd cc
        | inl at ↦
            let one : (if p.block == b then this ∷ [] else []) ≡ this ∷ [] = grind (arith, nat_tests, at) in
            let here : slice_get (this ∷ []) i ≡ Some k = sym (ap (λ ks. slice_get ks i) (listed ∙ one)) ∙ is in
            let same = only i here in
            (same.0, ap (λ (y : CommittedKey). y.key.object) (sym same.1), ap (λ (y : CommittedKey). y.key.chunk) (sym same.1))
      ] where
        only : {y : CommittedKey} (j : ℕ) → slice_get (y ∷ []) j ≡ Some k → (j ≡ 0) × (y ≡ k)
        only zero e = (refl, cc)
        only (suc j) e = absurd cc

-- all keys of an object are its
of_object : (b o : ℕ) (es : List KeyEntry) (i : ℕ) (k : CommittedKey) → slice_get (keys_of_object b o es) i ≡ Some k → k.key.object ≡ o
of_object b o [] i k is = absurd cc
of_object b o (e ∷ es) i k is = each_append (λ k. k.key.object ≡ o) (key_in b o e) (keys_of_object b o es) (λ j l at. (key_in_is b o e j l at).1) (of_object b o es) i k is

-- and above a chunk where all entries are
above_chunk : (b o n : ℕ) (es : List KeyEntry) → ((j : ℕ) (d : KeyEntry) → j < length es → n < chunk (get_or es j d)) → (i : ℕ) (k : CommittedKey) → slice_get (keys_of_object b o es) i ≡ Some k → n < k.key.chunk
above_chunk b o n [] above i k is = absurd cc
above_chunk b o n (e ∷ es) above i k is =
    each_append (λ k. n < k.key.chunk) (key_in b o e) (keys_of_object b o es)
    (λ j l at. let here : l.key.chunk ≡ chunk e = (key_in_is b o e j l at).2 in let lt : n < chunk e = above 0 e (omega arith) in omega (arith, here, lt))
    (above_chunk b o n es (λ j d lt. above (suc j) d (omega (arith, lt)))) i k is

once_object : (b o : ℕ) (es : List KeyEntry) → Rises chunk es → HasKeysOnce (keys_of_object b o es)
once_object b o [] rises = λ i j k l at there same. absurd cc
once_object b o (e ∷ es) rises = once_append (key_in b o e) (keys_of_object b o es)
    (λ i j k l at there same. (key_in_is b o e i k at).0 ∙ sym (key_in_is b o e j l there).0)
    (once_object b o es (λ i j d lt within. rises (suc i) (suc j) d (omega (arith, lt)) (omega (arith, within))))
    (λ i j k l at there same.
    let here : k.key.chunk ≡ chunk e = (key_in_is b o e i k at).2 in
    let above : chunk e < l.key.chunk = above_chunk b o (chunk e) es (λ q d lt. rises 0 (suc q) d (omega arith) (omega (arith, lt))) j l there in
    let both : k.key.chunk ≡ l.key.chunk = ap (λ (y : Key). y.chunk) same in
    omega (arith, here, above, both))

-- no key of these objects is of one that comes before all of them
other_objects : (b o : ℕ) (xs : List (ℕ × ObjectEntries)) → AllByRecursion (λ y. nat_cmp o y ≡ Less) (keys_of xs) → (i : ℕ) (k : CommittedKey) → slice_get (keys_in b xs) i ≡ Some k → o < k.key.object
other_objects b o [] all i k is = absurd cc
other_objects b o (x ∷ xs) all i k is =
    each_append (λ k. o < k.key.object) (keys_of_object b x.0 x.1.entries.items) (keys_in b xs)
    (λ j l at. let here : l.key.object ≡ x.0 = of_object b x.0 x.1.entries.items j l at in let lt : o < x.0 = ranked o x.0 Less (sym all.0) in omega (arith, here, lt))
    (other_objects b o xs all.1) i k is

once_all : (b : ℕ) (xs : List (ℕ × ObjectEntries)) → IsStrictlySortedBy nat_cmp (keys_of xs) → HasKeysOnce (keys_in b xs)
once_all b [] sorted = λ i j k l at there same. absurd cc
once_all b (x ∷ xs) sorted = once_append (keys_of_object b x.0 x.1.entries.items) (keys_in b xs)
    (once_object b x.0 x.1.entries.items x.1.rises)
    (once_all b xs (sorted_tail nat_cmp x.0 (keys_of xs) sorted))
    (λ i j k l at there same.
    let here : k.key.object ≡ x.0 = of_object b x.0 x.1.entries.items i k at in
    let above : x.0 < l.key.object = other_objects b x.0 xs (sorted_head nat_cmp x.0 (keys_of xs) sorted) j l there in
    let both : k.key.object ≡ l.key.object = ap (λ (y : Key). y.object) same in
    omega (arith, here, above, both))

-- no key is listed twice among those of a block
pub listed_once : (x : Index) (b : ℕ) → HasKeysOnce (block_keys x b)
listed_once x b = once_all b x.shelf.objects.entries x.shelf.ordered
