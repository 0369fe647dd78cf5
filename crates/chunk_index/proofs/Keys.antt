-- The committed keys of a block, as a list and as a map.
use Rattle.std.proofs.Common.{◌≡◌, ℕ, zero, suc, ◌<◌, List, [], ◌∷◌, ◌++◌, length, get_or, slice_get, Option, Some, None, if◌then◌else◌, ◌==◌, refl, sym, ap, subst, ◌∙◌, arith, inl, inr}
use Rattle.std.specs.Option.{option_and_then, option_map_or}
use Rattle.std.specs.Ordering.{nat_cmp}
use Rattle.std.specs.Cmp.{nat_cmp_total}
use Rattle.std.specs.Map.{lookup}
use Rattle.std.specs.BTreeMap.{get, is_at}
use Rattle.std.proofs.lemmas.Bool.{cases_eq}
use Rattle.std.proofs.lemmas.Bool.Decides.{nat_tests}
use Rattle.std.proofs.lemmas.List.{get_or_default}
use Rattle.std.proofs.lemmas.Map.Entries.{btree_map_get_place}
use Rattle.chunk_index.specs.declared.form.CommittedPage.{CommittedPage}
use Rattle.chunk_index.specs.declared.form.CommittedKey.{CommittedKey}
use Rattle.chunk_index.specs.declared.entry.KeyEntry.{KeyEntry}
use Rattle.chunk_index.specs.declared.object.ObjectEntries.{ObjectEntries}
use Rattle.chunk_index.specs.declared.index.Index.{Index}
use Rattle.chunk_index.specs.Lists.{find_by}
use Rattle.chunk_index.specs.Entries.{chunk, committed_of}
use Rattle.chunk_index.specs.Shelves.{entry_of}
use Rattle.chunk_index.specs.Listing.{key_in, keys_of, keys_in, block_keys, IsCommittedKey}
use Rattle.chunk_index.specs.Committed.{HoldsNone}
use Rattle.chunk_index.proofs.Committed.{length-keys_in}
use Rattle.chunk_index.specs.Maps.{committed_pages, count_committed_in}
use Rattle.chunk_index.proofs.Finding.{find_at}

-- a key stands in a list
pub data IsIn (k : CommittedKey) : List CommittedKey → Type 0 where
  first : {ks : List CommittedKey} → IsIn k (k ∷ ks)
  later : {j : CommittedKey} {ks : List CommittedKey} → IsIn k ks → IsIn k (j ∷ ks)

pub is_in_left : (k : CommittedKey) (xs ys : List CommittedKey) → IsIn k xs → IsIn k (xs ++ ys)
is_in_left k [] ys s = elim s [ ]
is_in_left k (x ∷ xs) ys first = first
is_in_left k (x ∷ xs) ys (later s) = later (is_in_left k xs ys s)

pub is_in_right : (k : CommittedKey) (xs ys : List CommittedKey) → IsIn k ys → IsIn k (xs ++ ys)
is_in_right k [] ys s = s
is_in_right k (x ∷ xs) ys s = later (is_in_right k xs ys s)

pub is_in_place : (k : CommittedKey) (xs : List CommittedKey) → IsIn k xs → (i : ℕ) × (slice_get xs i ≡ Some k)
is_in_place k [] s = elim s [ ]
is_in_place k (x ∷ xs) first = (0, refl)
is_in_place k (x ∷ xs) (later s) = let at = is_in_place k xs s in (suc at.0, at.1)

-- what holds of each of two lists holds of both, one after the other
pub each_append : (P : CommittedKey → Type 0) (xs ys : List CommittedKey) → ((i : ℕ) (k : CommittedKey) → slice_get xs i ≡ Some k → P k) → ((i : ℕ) (k : CommittedKey) → slice_get ys i ≡ Some k → P k)
    → (i : ℕ) (k : CommittedKey) → slice_get (xs ++ ys) i ≡ Some k → P k
each_append P [] ys one two i k is = two i k is
each_append P (x ∷ xs) ys one two zero k is = one 0 k is
each_append P (x ∷ xs) ys one two (suc i) k is = each_append P xs ys (λ j l at. one (suc j) l at) two i k is

-- ---- each listed key is committed in the block

key_is : (x : Index) (b o : ℕ) (e : KeyEntry) → committed_pages x o (chunk e) ≡ e.committed → (i : ℕ) (k : CommittedKey) → slice_get (key_in b o e) i ≡ Some k → IsCommittedKey x b k
key_is x b o e reported i k is = go e.committed refl where
  go : (p : Option CommittedPage) → e.committed ≡ p → IsCommittedKey x b k
  go None none =
      let nothing : key_in b o e ≡ [] = ap (λ q. option_map_or (λ p. if p.block == b then record { key = record { object = o; chunk = e.chunk }; at = p } ∷ [] else []) q []) none in
      let both : None ≡ Some k = sym (ap (λ ks. slice_get ks i) nothing) ∙ is in
      absurd cc
  go (Some p) some =
      let this : CommittedKey = record { key = record { object = o; chunk = e.chunk }; at = p } in
      let listed : key_in b o e ≡ (if p.block == b then this ∷ [] else []) = ap (λ q. option_map_or (λ p. if p.block == b then record { key = record { object = o; chunk = e.chunk }; at = p } ∷ [] else []) q []) some in
      elim (cases_eq p.block b) [
        | inr ne ↦
            let none : (if p.block == b then this ∷ [] else []) ≡ [] = grind (arith, nat_tests, ne) in
            let both : None ≡ Some k = sym (ap (λ ks. slice_get ks i) (listed ∙ none)) ∙ is in
            absurd cc
        | inl at ↦
            let one : (if p.block == b then this ∷ [] else []) ≡ this ∷ [] = grind (arith, nat_tests, at) in
            let here : slice_get (this ∷ []) i ≡ Some k = sym (ap (λ ks. slice_get ks i) (listed ∙ one)) ∙ is in
            let same : this ≡ k = only i here in
            subst (IsCommittedKey x b) same (reported ∙ some, at)
      ] where
        only : {y : CommittedKey} (j : ℕ) → slice_get (y ∷ []) j ≡ Some k → y ≡ k
        only zero e = cc
        only (suc j) e = absurd cc

keys_are : (x : Index) (b o : ℕ) (es : List KeyEntry) → ((j : ℕ) (d : KeyEntry) → j < length es → committed_pages x o (chunk (get_or es j d)) ≡ (get_or es j d).committed) → (i : ℕ) (k : CommittedKey) → slice_get (keys_of b o es) i ≡ Some k → IsCommittedKey x b k
keys_are x b o [] reported i k is = absurd cc
keys_are x b o (e ∷ es) reported i k is = each_append (IsCommittedKey x b) (key_in b o e) (keys_of b o es) (key_is x b o e (reported 0 e (omega arith))) (keys_are x b o es (λ j d lt. reported (suc j) d (omega (arith, lt)))) i k is

all_are : (x : Index) (b : ℕ) (xs : List (ℕ × ObjectEntries)) → ((j o : ℕ) (z : ObjectEntries) → slice_get xs j ≡ Some (o, z) → get nat_cmp x.shelf.objects o ≡ Some z) → (i : ℕ) (k : CommittedKey) → slice_get (keys_in b xs) i ≡ Some k → IsCommittedKey x b k
all_are x b [] found i k is = absurd cc
all_are x b (p ∷ xs) found i k is =
    let here : get nat_cmp x.shelf.objects p.0 ≡ Some p.1 = found 0 p.0 p.1 refl in
    each_append (IsCommittedKey x b) (keys_of b p.0 p.1.entries.items) (keys_in b xs)
    (keys_are x b p.0 p.1.entries.items (λ j d lt.
    ap (λ v. committed_of (option_and_then (entry_of (chunk (get_or p.1.entries.items j d))) v)) here
    ∙ ap committed_of (find_at chunk p.1.entries.items p.1.rises (chunk (get_or p.1.entries.items j d)) j (record { within = lt; number = λ e. ap chunk (get_or_default p.1.entries.items j e d lt) }) d)))
    (all_are x b xs (λ j o z at. found (suc j) o z at)) i k is

pub listed_is_committed : (x : Index) (b i : ℕ) (k : CommittedKey) → slice_get (block_keys x b) i ≡ Some k → IsCommittedKey x b k
listed_is_committed x b = all_are x b x.shelf.objects.entries (λ j o z at. btree_map_get_place nat_cmp_total x.shelf.objects j o z x.shelf.ordered at)

-- ---- and each key that is committed there is listed

is_in_key : (b o : ℕ) (e : KeyEntry) (p : CommittedPage) → e.committed ≡ Some p → p.block ≡ b → IsIn (record { key = record { object = o; chunk = chunk e }; at = p }) (key_in b o e)
is_in_key b o e p some at =
    let this : CommittedKey = record { key = record { object = o; chunk = e.chunk }; at = p } in
    let listed : key_in b o e ≡ (if p.block == b then this ∷ [] else []) = ap (λ q. option_map_or (λ p. if p.block == b then record { key = record { object = o; chunk = e.chunk }; at = p } ∷ [] else []) q []) some in
    let one : (if p.block == b then this ∷ [] else []) ≡ this ∷ [] = grind (arith, nat_tests, at) in
    subst (IsIn this) (sym (listed ∙ one)) first

is_in_object : (b o c : ℕ) (p : CommittedPage) → p.block ≡ b → (es : List KeyEntry) → committed_of (find_by chunk es c) ≡ Some p → IsIn (record { key = record { object = o; chunk = c }; at = p }) (keys_of b o es)
is_in_object b o c p at [] is = absurd cc
is_in_object b o c p at (e ∷ es) is = elim (cases_eq (chunk e) c) [
  | inl same ↦
      let here : find_by chunk (e ∷ es) c ≡ Some e = grind (arith, nat_tests, same) in
      is_in_left _ (key_in b o e) (keys_of b o es) (subst (λ l. IsIn (record { key = record { object = o; chunk = l }; at = p }) (key_in b o e)) same (is_in_key b o e p (sym (ap committed_of here) ∙ is) at))
  | inr ne ↦
      let there : find_by chunk (e ∷ es) c ≡ find_by chunk es c = grind (arith, nat_tests, ne) in
      is_in_right _ (key_in b o e) (keys_of b o es) (is_in_object b o c p at es (sym (ap committed_of there) ∙ is))
]

is_in_all : (b o c : ℕ) (p : CommittedPage) → p.block ≡ b → (xs : List (ℕ × ObjectEntries)) → committed_of (option_and_then (entry_of c) (lookup (is_at (nat_cmp o)) xs)) ≡ Some p → IsIn (record { key = record { object = o; chunk = c }; at = p }) (keys_in b xs)
is_in_all b o c p at [] is = absurd cc
is_in_all b o c p at (x ∷ xs) is = elim (cases_eq x.0 o) [
  | inl same ↦
      let here : lookup (is_at (nat_cmp o)) (x ∷ xs) ≡ Some x.1 = grind (arith, nat_tests, same) in
      is_in_left _ (keys_of b x.0 x.1.entries.items) (keys_in b xs) (subst (λ n. IsIn (record { key = record { object = n; chunk = c }; at = p }) (keys_of b x.0 x.1.entries.items)) same
      (is_in_object b x.0 c p at x.1.entries.items (sym (ap (λ v. committed_of (option_and_then (entry_of c) v)) here) ∙ is)))
  | inr ne ↦
      let there : lookup (is_at (nat_cmp o)) (x ∷ xs) ≡ lookup (is_at (nat_cmp o)) xs = grind (arith, nat_tests, ne) in
      is_in_right _ (keys_of b x.0 x.1.entries.items) (keys_in b xs) (is_in_all b o c p at xs (sym (ap (λ v. committed_of (option_and_then (entry_of c) v)) there) ∙ is))
]

pub committed_is_listed : (x : Index) (b o c : ℕ) (p : CommittedPage) → committed_pages x o c ≡ Some p → p.block ≡ b → (i : ℕ) × (slice_get (block_keys x b) i ≡ Some (record { key = record { object = o; chunk = c }; at = p }))
committed_is_listed x b o c p is at = is_in_place _ (block_keys x b) (is_in_all b o c p at x.shelf.objects.entries is)

-- ---- counts

pub count_of_list : (x : Index) (b : ℕ) → length (block_keys x b) ≡ count_committed_in x b
count_of_list x b = length-keys_in b x.shelf.objects.entries

pub none_where_zero : (x : Index) (b : ℕ) → count_committed_in x b ≡ 0 → HoldsNone (committed_pages x) b
none_where_zero x b none o c p is at = go (block_keys x b) (count_of_list x b ∙ none) (committed_is_listed x b o c p is at) where
  go : (ks : List CommittedKey) → length ks ≡ 0 → ((i : ℕ) × (slice_get ks i ≡ Some (record { key = record { object = o; chunk = c }; at = p }))) → ⊥
  go [] e (i, listed) = cc
  go (k ∷ ks) e listed = omega (arith, e)

pub zero_where_none : (x : Index) (b : ℕ) → HoldsNone (committed_pages x) b → count_committed_in x b ≡ 0
zero_where_none x b holds = go (block_keys x b) (count_of_list x b) (listed_is_committed x b) where
  go : (ks : List CommittedKey) → length ks ≡ count_committed_in x b → ((i : ℕ) (k : CommittedKey) → slice_get ks i ≡ Some k → IsCommittedKey x b k) → count_committed_in x b ≡ 0
  go [] count each = sym count
  go (k ∷ ks) count each = let is = each 0 k refl in absurd (holds k.key.object k.key.chunk k.at is.0 is.1)
