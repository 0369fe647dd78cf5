-- The list of all committed keys.
use Rattle.std.proofs.Common.{◌≡◌, ℕ, zero, suc, ◌<◌, ◌^◌, List, [], ◌∷◌, ◌++◌, slice_get, Option, Some, None, refl, sym, ap, subst, ◌∙◌, arith, inl, inr}
use Rattle.std.specs.Option.{option_map_or}
use Rattle.std.proofs.lemmas.Bool.{cases_lt}
use Rattle.chunk_index.specs.declared.form.CommittedPage.{CommittedPage}
use Rattle.chunk_index.specs.declared.form.CommittedKey.{CommittedKey}
use Rattle.chunk_index.specs.Committed.{Before, KeyRises, IsListOf}
use Rattle.chunk_index.specs.Maps.{CommittedMap}
use Rattle.flash_log.specs.CheckpointListing.{key_at, chunk_keys, object_keys, key_end, committed_keys}

-- ---- lists of keys

-- each key of the list comes after a key
abbrev After : CommittedKey → List CommittedKey → Type 0
After k ks = (i : ℕ) (l : CommittedKey) → slice_get ks i ≡ Some l → Before k l

-- what holds of each of two lists holds of both, one after the other
each_append : (P : CommittedKey → Type 0) (xs ys : List CommittedKey) → ((i : ℕ) (k : CommittedKey) → slice_get xs i ≡ Some k → P k) → ((i : ℕ) (k : CommittedKey) → slice_get ys i ≡ Some k → P k)
    → (i : ℕ) (k : CommittedKey) → slice_get (xs ++ ys) i ≡ Some k → P k
each_append P [] ys one two i k is = two i k is
each_append P (x ∷ xs) ys one two zero k is = one 0 k is
each_append P (x ∷ xs) ys one two (suc i) k is = each_append P xs ys (λ j l at. one (suc j) l at) two i k is

-- the key stands in the list
abbrev IsIn : CommittedKey → List CommittedKey → Type 0
IsIn k ks = (i : ℕ) × (slice_get ks i ≡ Some k)

is_in_left : (k : CommittedKey) (xs ys : List CommittedKey) → IsIn k xs → IsIn k (xs ++ ys)
is_in_left k [] ys (i, is) = absurd cc
is_in_left k (x ∷ xs) ys (zero, is) = (0, is)
is_in_left k (x ∷ xs) ys (suc i, is) = let rest = is_in_left k xs ys (i, is) in (suc rest.0, rest.1)

is_in_right : (k : CommittedKey) (xs ys : List CommittedKey) → IsIn k ys → IsIn k (xs ++ ys)
is_in_right k [] ys s = s
is_in_right k (x ∷ xs) ys s = let rest = is_in_right k xs ys s in (suc rest.0, rest.1)

rising_tail : (k : CommittedKey) (ks : List CommittedKey) → KeyRises (k ∷ ks) → KeyRises ks
rising_tail k ks rise i j a b lt at_i at_j = rise (suc i) (suc j) a b (omega (arith, lt)) at_i at_j

rising_cons : (k : CommittedKey) (ks : List CommittedKey) → After k ks → KeyRises ks → KeyRises (k ∷ ks)
rising_cons k ks after rise zero zero a b lt at_i at_j = absurd (omega (arith, lt))
rising_cons k ks after rise zero (suc j) a b lt at_i at_j = let same : k ≡ a = cc in subst (λ x. Before x b) same (after j b at_j)
rising_cons k ks after rise (suc i) zero a b lt at_i at_j = absurd (omega (arith, lt))
rising_cons k ks after rise (suc i) (suc j) a b lt at_i at_j = rise i j a b (omega (arith, lt)) at_i at_j

rising_none : KeyRises []
rising_none i j a b lt at_i at_j = absurd cc

rising_append : (xs ys : List CommittedKey) → KeyRises xs → KeyRises ys → ((i : ℕ) (k : CommittedKey) → slice_get xs i ≡ Some k → After k ys) → KeyRises (xs ++ ys)
rising_append [] ys one two between = two
rising_append (x ∷ xs) ys one two between =
    rising_cons x (xs ++ ys) (each_append (Before x) xs ys (λ i l at. one 0 (suc i) x l (omega arith) refl at) (between 0 x refl))
    (rising_append xs ys (rising_tail x xs one) two (λ i k at. between (suc i) k at))

-- ---- the keys of an object

module _ (m : CommittedMap) where
  -- the key of an object's chunk, with its committed page
  record IsKeyOf (o c : ℕ) (k : CommittedKey) : Type 0 where
    object : k.key.object ≡ o
    chunk_is : k.key.chunk ≡ c
    page : m o c ≡ Some k.at

  abbrev key_with : ℕ → ℕ → CommittedPage → CommittedKey
  key_with o c p = record { key = record { object = o; chunk = c }; at = p }

  is_key : (o c i : ℕ) (k : CommittedKey) → slice_get (key_at m o c) i ≡ Some k → IsKeyOf o c k
  is_key o c i k is = go (m o c) refl i is where
    go : (p : Option CommittedPage) → m o c ≡ p → (i : ℕ) → slice_get (option_map_or (λ (q : CommittedPage). key_with o c q ∷ []) p []) i ≡ Some k → IsKeyOf o c k
    go None none i at = absurd cc
    go (Some p) some zero at = let same : key_with o c p ≡ k = cc in subst (IsKeyOf o c) same (record { object = refl; chunk_is = refl; page = some })
    go (Some p) some (suc i) at = absurd cc

  one_rises : (o c : ℕ) → KeyRises (key_at m o c)
  one_rises o c = go (m o c) where
    go : (p : Option CommittedPage) → KeyRises (option_map_or (λ (q : CommittedPage). key_with o c q ∷ []) p [])
    go None = rising_none
    go (Some p) = rising_cons (key_with o c p) [] (λ i l at. absurd cc) rising_none

  is_in_key : (o c : ℕ) (p : CommittedPage) → m o c ≡ Some p → IsIn (key_with o c p) (key_at m o c)
  is_in_key o c p is = (0, ap (λ q. slice_get (option_map_or (λ (r : CommittedPage). key_with o c r ∷ []) q []) 0) is)

  -- a committed key of an object, of a chunk below n
  record IsOfObject (o n : ℕ) (k : CommittedKey) : Type 0 where
    object : k.key.object ≡ o
    below : k.key.chunk < n
    page : m o k.key.chunk ≡ Some k.at

  each_chunk : (o n i : ℕ) (k : CommittedKey) → slice_get (chunk_keys m o n) i ≡ Some k → IsOfObject o n k
  each_chunk o zero i k is = absurd cc
  each_chunk o (suc n) i k is = each_append (IsOfObject o (suc n)) (chunk_keys m o n) (key_at m o n)
      (λ j l at. let was = each_chunk o n j l at in record { object = was.object; below = omega (arith, was.below); page = was.page })
      (λ j l at. let here = is_key o n j l at in record { object = here.object; below = omega (arith, here.chunk_is); page = ap (m o) here.chunk_is ∙ here.page })
      i k is

  rising_chunks : (o n : ℕ) → KeyRises (chunk_keys m o n)
  rising_chunks o zero = rising_none
  rising_chunks o (suc n) = rising_append (chunk_keys m o n) (key_at m o n) (rising_chunks o n) (one_rises o n) (λ i k at j l at'.
      let one = each_chunk o n i k at in
      let two = is_key o n j l at' in
      inr (one.object ∙ sym two.object, omega (arith, one.below, two.chunk_is)))

  is_in_chunk : (o c n : ℕ) (p : CommittedPage) → c < n → m o c ≡ Some p → IsIn (key_with o c p) (chunk_keys m o n)
  is_in_chunk o c zero p lt is = absurd (omega (arith, lt))
  is_in_chunk o c (suc n) p lt is = elim (cases_lt c n) [
    | inl less ↦ is_in_left (key_with o c p) (chunk_keys m o n) (key_at m o n) (is_in_chunk o c n p less is)
    | inr ge ↦
        let last : c ≡ n = omega (arith, lt, ge) in
        is_in_right (key_with o c p) (chunk_keys m o n) (key_at m o n) (subst (λ l. IsIn (key_with o c p) (key_at m o l)) last (is_in_key o c p is))
  ]

  -- ---- the keys of all objects

  record IsOfAll (n o : ℕ) (k : CommittedKey) : Type 0 where
    object : k.key.object < o
    page : m k.key.object k.key.chunk ≡ Some k.at

  each_object : (n o i : ℕ) (k : CommittedKey) → slice_get (object_keys m n o) i ≡ Some k → IsOfAll n o k
  each_object n zero i k is = absurd cc
  each_object n (suc o) i k is = each_append (IsOfAll n (suc o)) (object_keys m n o) (chunk_keys m o n)
      (λ j l at. let was = each_object n o j l at in record { object = omega (arith, was.object); page = was.page })
      (λ j l at. let here = each_chunk o n j l at in record { object = omega (arith, here.object); page = ap (λ q. m q l.key.chunk) here.object ∙ here.page })
      i k is

  rising_objects : (n o : ℕ) → KeyRises (object_keys m n o)
  rising_objects n zero = rising_none
  rising_objects n (suc o) = rising_append (object_keys m n o) (chunk_keys m o n) (rising_objects n o) (rising_chunks o n) (λ i k at j l at'.
      let one = each_object n o i k at in
      let two = each_chunk o n j l at' in
      inl (omega (arith, one.object, two.object)))

  is_in_object : (n o c k : ℕ) (p : CommittedPage) → o < k → c < n → m o c ≡ Some p → IsIn (key_with o c p) (object_keys m n k)
  is_in_object n o c zero p lt below is = absurd (omega (arith, lt))
  is_in_object n o c (suc k) p lt below is = elim (cases_lt o k) [
    | inl less ↦ is_in_left (key_with o c p) (object_keys m n k) (chunk_keys m k n) (is_in_object n o c k p less below is)
    | inr ge ↦
        let last : o ≡ k = omega (arith, lt, ge) in
        is_in_right (key_with o c p) (object_keys m n k) (chunk_keys m k n) (subst (λ l. IsIn (key_with o c p) (chunk_keys m l n)) last (is_in_chunk o c n p below is))
  ]

below_end : (n : ℕ) → n < 2 ^ 64 → n < key_end
unfolding key_end
below_end n lt = lt

-- the list has each committed key with its page, and no other, in rising order, where their numbers are of 64 bits
pub lists_keys : (m : CommittedMap) → ((o c : ℕ) (p : CommittedPage) → m o c ≡ Some p → (o < 2 ^ 64) × (c < 2 ^ 64)) → IsListOf m (committed_keys m)
unfolding committed_keys
lists_keys m small = record {
  each = λ i k at. (each_object m key_end key_end i k at).page;
  all = λ o c p is. let lt = small o c p is in is_in_object m key_end o c key_end p (below_end o lt.0) (below_end c lt.1) is;
  rise = rising_objects m key_end key_end;
}
