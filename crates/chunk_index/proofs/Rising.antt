-- The list of all committed keys, in rising order.
use Rattle.std.proofs.Common.{◌≡◌, ℕ, zero, suc, ◌+◌, ◌<◌, ◌≤◌, List, [], ◌∷◌, ◌++◌, length, get_or, slice_get, Option, Some, None, refl, sym, ap, subst, ◌∙◌, arith, inl, inr}
use Rattle.std.specs.List.{sum_by, cons_option}
use Rattle.std.specs.Option.{option_map, option_and_then, option_map_or}
use Rattle.std.specs.Ordering.{nat_cmp}
use Rattle.std.specs.Cmp.{nat_cmp_total}
use Rattle.std.specs.Map.{lookup, values_of, keys_of}
use Rattle.std.specs.BTreeMap.{get, is_at}
use Rattle.std.proofs.lemmas.Bool.{cases_eq, cases_lt}
use Rattle.std.proofs.lemmas.Bool.Decides.{nat_tests}
use Rattle.std.proofs.lemmas.List.{get_or_default, length-append}
use Rattle.std.proofs.lemmas.List.Sums.{sum_by-cons}
use Rattle.std.proofs.lemmas.Option.{slice_get_within}
use Rattle.std.proofs.lemmas.Map.Entries.{btree_map_get_place}
use Rattle.std.proofs.lemmas.Map.Keys.{below_from_sorted}
use Rattle.block_state.specs.Table.{Table}
use Rattle.block_state.specs.Committed.{committed_count}
use Rattle.chunk_index.specs.declared.form.CommittedPage.{CommittedPage}
use Rattle.chunk_index.specs.declared.form.CommittedKey.{CommittedKey}
use Rattle.chunk_index.specs.declared.entry.KeyEntry.{KeyEntry}
use Rattle.chunk_index.specs.declared.object.ObjectEntries.{ObjectEntries}
use Rattle.chunk_index.specs.declared.index.Index.{Index}
use Rattle.chunk_index.specs.Lists.{find_by, Rises}
use Rattle.chunk_index.specs.Entries.{chunk, committed_of, weigh}
use Rattle.chunk_index.specs.Shelves.{entry_of}
use Rattle.chunk_index.specs.Committed.{Before, KeyRises, IsListOf, HasCommitted}
use Rattle.chunk_index.specs.Following.{committed_key, object_keys, all_keys}
use Rattle.chunk_index.specs.Maps.{CommittedMap, committed_pages, CountsAgree}
use Rattle.chunk_index.proofs.Finding.{find_at}
use Rattle.chunk_index.proofs.Keys.{IsIn, first, later, is_in_left, is_in_right, is_in_place, each_append}
use Rattle.chunk_index.proofs.Totals.{committed_one, all_counted}

-- ---- lists of keys

-- each element of the list comes after a key
abbrev After : CommittedKey → List CommittedKey → Type 0
After k ks = (i : ℕ) (l : CommittedKey) → slice_get ks i ≡ Some l → Before k l

rising_tail : (k : CommittedKey) (ks : List CommittedKey) → KeyRises (k ∷ ks) → KeyRises ks
rising_tail k ks rise i j a b lt at_i at_j = rise (suc i) (suc j) a b (omega (arith, lt)) at_i at_j

rising_cons : (k : CommittedKey) (ks : List CommittedKey) → After k ks → KeyRises ks → KeyRises (k ∷ ks)
rising_cons k ks after rise zero zero a b lt at_i at_j = absurd (omega (arith, lt))
rising_cons k ks after rise zero (suc j) a b lt at_i at_j = let same : k ≡ a = cc in subst (λ x. Before x b) same (after j b at_j)
rising_cons k ks after rise (suc i) zero a b lt at_i at_j = absurd (omega (arith, lt))
rising_cons k ks after rise (suc i) (suc j) a b lt at_i at_j = rise i j a b (omega (arith, lt)) at_i at_j

rising_append : (xs ys : List CommittedKey) → KeyRises xs → KeyRises ys → ((i : ℕ) (k : CommittedKey) → slice_get xs i ≡ Some k → After k ys) → KeyRises (xs ++ ys)
rising_append [] ys one two between = two
rising_append (x ∷ xs) ys one two between =
    rising_cons x (xs ++ ys) (each_append (Before x) xs ys (λ i l at. one 0 (suc i) x l (omega arith) refl at) (between 0 x refl))
    (rising_append xs ys (rising_tail x xs one) two (λ i k at. between (suc i) k at))

not_both : (j k : CommittedKey) → Before j k → Before k j → ⊥
not_both j k (inl a) (inl b) = omega (arith, a, b)
not_both j k (inl a) (inr b) = omega (arith, a, b.0)
not_both j k (inr a) (inl b) = omega (arith, a.0, b)
not_both j k (inr a) (inr b) = omega (arith, a.1, b.1)

-- a rising list whose keys all stand in another, from a place on, is no longer than what stands there
no_longer : (ks js : List CommittedKey) (n : ℕ) → KeyRises ks → KeyRises js → n ≤ length js → ((i : ℕ) (k : CommittedKey) → slice_get ks i ≡ Some k → (j : ℕ) × (n ≤ j) × (slice_get js j ≡ Some k)) → n + length ks ≤ length js
no_longer [] js n rise other within each = omega (arith, within)
no_longer (k ∷ ks) js n rise other within each =
    let first = each 0 k refl in
    let lt : first.0 < length js = slice_get_within js first.0 k first.2 in
    let rest = no_longer ks js (first.0 + 1) (rising_tail k ks rise) other (omega (arith, lt)) (λ i l at.
    let there = each (suc i) l at in
    let before : Before k l = rise 0 (suc i) k l (omega arith) refl at in
    elim (cases_lt first.0 there.0) [
      | inl more ↦ (there.0, omega (arith, more), there.2)
      | inr less ↦ elim (cases_eq there.0 first.0) [
        | inl same ↦
            let both : Some l ≡ Some k = sym there.2 ∙ ap (slice_get js) same ∙ first.2 in
            let one : l ≡ k = cc in
            absurd (not_both k l before (subst (λ x. Before x k) (sym one) (subst (λ x. Before k x) one before)))
        | inr ne ↦ absurd (not_both k l before (other there.0 first.0 l k (omega (arith, less, ne)) there.2 first.2))
      ]
    ]) in
    omega (arith, rest, first.1)

-- two lists of the same keys are as long
pub one_length : (m : CommittedMap) (n k : ℕ) → HasCommitted m n → HasCommitted m k → n ≡ k
one_length m n k one two =
    let le = fits one.0 two.0 one.1 two.1 in
    let ge = fits two.0 one.0 two.1 one.1 in
    omega (arith, le, ge, one.2, two.2) where
      fits : (ks js : List CommittedKey) → IsListOf m ks → IsListOf m js → 0 + length ks ≤ length js
      fits ks js a b = no_longer ks js 0 a.rise b.rise (omega arith) (λ i k at.
          let there = b.all k.key.object k.key.chunk k.at (a.each i k at) in
          (there.0, omega arith, there.1))

-- and they are one list
module _ (m : CommittedMap) where
  -- each key of the first list stands in the second
  abbrev AreIn : List CommittedKey → List CommittedKey → Type 0
  AreIn ks js = (i : ℕ) (k : CommittedKey) → slice_get ks i ≡ Some k → (n : ℕ) × (slice_get js n ≡ Some k)

  tail_in : (k : CommittedKey) (ks js : List CommittedKey) → KeyRises (k ∷ ks) → AreIn (k ∷ ks) (k ∷ js) → AreIn ks js
  tail_in k ks js rise each i l at =
      let there = each (suc i) l at in
      let before : Before k l = rise 0 (suc i) k l (omega arith) refl at in
      go before there.0 there.1 where
        go : Before k l → (n : ℕ) → slice_get (k ∷ js) n ≡ Some l → (n : ℕ) × (slice_get js n ≡ Some l)
        go before zero is =
            let same : k ≡ l = cc in
            let itself : Before l l = subst (λ x. Before x l) same before in
            absurd (not_both l l itself itself)
        go before (suc n) is = (n, is)

  one_head : (k j : CommittedKey) (ks js : List CommittedKey) → KeyRises (k ∷ ks) → KeyRises (j ∷ js) → AreIn (k ∷ ks) (j ∷ js) → AreIn (j ∷ js) (k ∷ ks) → k ≡ j
  one_head k j ks js rise other each back =
      let a = each 0 k refl in
      let b = back 0 j refl in
      go a.0 a.1 b.0 b.1 where
        go : (a : ℕ) → slice_get (j ∷ js) a ≡ Some k → (b : ℕ) → slice_get (k ∷ ks) b ≡ Some j → k ≡ j
        go zero at b there = cc
        go (suc a) at zero there = cc
        go (suc a) at (suc b) there = absurd (not_both j k (other 0 (suc a) j k (omega arith) refl at) (rise 0 (suc b) k j (omega arith) refl there))

  same_keys : (ks js : List CommittedKey) → KeyRises ks → KeyRises js → AreIn ks js → AreIn js ks → ks ≡ js
  same_keys [] [] rise other each back = refl
  same_keys [] (j ∷ js) rise other each back = let two = (back 0 j refl).1 in absurd cc
  same_keys (k ∷ ks) [] rise other each back = let two = (each 0 k refl).1 in absurd cc
  same_keys (k ∷ ks) (j ∷ js) rise other each back =
      let head : k ≡ j = one_head k j ks js rise other each back in
      let each_k : AreIn (k ∷ ks) (k ∷ js) = subst (λ x. AreIn (k ∷ ks) (x ∷ js)) (sym head) each in
      let back_k : AreIn (k ∷ js) (k ∷ ks) = subst (λ x. AreIn (x ∷ js) (k ∷ ks)) (sym head) back in
      let other_k : KeyRises (k ∷ js) = subst (λ x. KeyRises (x ∷ js)) (sym head) other in
      let tail : ks ≡ js = same_keys ks js (rising_tail k ks rise) (rising_tail k js other_k) (tail_in k ks js rise each_k) (tail_in k js ks other_k back_k) in
      ap (λ x. x ∷ ks) head ∙ ap (λ xs. j ∷ xs) tail

  pub one_list : (ks js : List CommittedKey) → IsListOf m ks → IsListOf m js → ks ≡ js
  one_list ks js a b = same_keys ks js a.rise b.rise (in_other ks js a b) (in_other js ks b a) where
    in_other : (ks js : List CommittedKey) → IsListOf m ks → IsListOf m js → AreIn ks js
    in_other ks js a b i k at = b.all k.key.object k.key.chunk k.at (a.each i k at)

-- ---- the list of an index

-- a committed key of an entry
record IsOfEntry (o : ℕ) (e : KeyEntry) (k : CommittedKey) : Type 0 where
  object : k.key.object ≡ o
  chunk_is : k.key.chunk ≡ e.chunk
  page : e.committed ≡ Some k.at

of_entry : (o : ℕ) (e : KeyEntry) (k : CommittedKey) → committed_key o e ≡ Some k → IsOfEntry o e k
of_entry o e k is = go e.committed refl where
  go : (p : Option CommittedPage) → e.committed ≡ p → IsOfEntry o e k
  go None none = let both : None ≡ Some k = sym (ap (option_map (λ (p : CommittedPage). record { key = record { object = o; chunk = e.chunk }; at = p })) none) ∙ is in absurd cc
  go (Some p) some =
      let this : CommittedKey = record { key = record { object = o; chunk = e.chunk }; at = p } in
      let both : Some this ≡ Some k = sym (ap (option_map (λ (p : CommittedPage). record { key = record { object = o; chunk = e.chunk }; at = p })) some) ∙ is in
      let same : this ≡ k = cc in
      subst (IsOfEntry o e) same (record { object = refl; chunk_is = refl; page = some })

-- what holds of the key of each entry holds of each key of an object
each_object : (P : CommittedKey → Type 0) (o : ℕ) (es : List KeyEntry) → ((j : ℕ) (d : KeyEntry) (k : CommittedKey) → j < length es → IsOfEntry o (get_or es j d) k → P k)
    → (i : ℕ) (k : CommittedKey) → slice_get (object_keys o es) i ≡ Some k → P k
each_object P o [] each i k is = let both : None ≡ Some k = is in absurd cc
each_object P o (e ∷ es) each i k is = go (λ j at. each_object P o es (λ n d l lt. each (suc n) d l (omega (arith, lt))) j k at) (committed_key o e) refl i is where
  go : ((j : ℕ) → slice_get (object_keys o es) j ≡ Some k → P k) → (v : Option CommittedKey) → committed_key o e ≡ v → (i : ℕ) → slice_get (cons_option v (object_keys o es)) i ≡ Some k → P k
  go rest None none i at = rest i at
  go rest (Some x) some zero at = let same : x ≡ k = cc in each 0 e k (omega arith) (of_entry o e k (some ∙ ap Some same))
  go rest (Some x) some (suc i) at = rest i at

rising_object : (o : ℕ) (es : List KeyEntry) → Rises chunk es → KeyRises (object_keys o es)
rising_object o [] rises = λ i j a b lt at_i. λ at_j. let both : None ≡ Some a = at_i in absurd cc
rising_object o (e ∷ es) rises = go (rising_object o es (λ i j d lt within. rises (suc i) (suc j) d (omega (arith, lt)) (omega (arith, within)))) (committed_key o e) refl where
  go : KeyRises (object_keys o es) → (v : Option CommittedKey) → committed_key o e ≡ v → KeyRises (cons_option v (object_keys o es))
  go rest None none = rest
  go rest (Some x) some =
      let this = of_entry o e x some in
      rising_cons x (object_keys o es) (each_object (Before x) o es (λ j d l within is.
      let above : chunk e < chunk (get_or es j d) = rises 0 (suc j) d (omega arith) (omega (arith, within)) in
      inr (this.object ∙ sym is.object, omega (arith, above, this.chunk_is, is.chunk_is)))) rest

-- the objects of a list of them rise
abbrev ObjectsRise : List (ℕ × ObjectEntries) → Type 0
ObjectsRise xs = (i j o k : ℕ) (x y : ObjectEntries) → i < j → slice_get xs i ≡ Some (o, x) → slice_get xs j ≡ Some (k, y) → o < k

each_all : (P : CommittedKey → Type 0) (xs : List (ℕ × ObjectEntries)) → ((j o : ℕ) (z : ObjectEntries) → slice_get xs j ≡ Some (o, z) → (i : ℕ) (k : CommittedKey) → slice_get (object_keys o z.entries.items) i ≡ Some k → P k)
    → (i : ℕ) (k : CommittedKey) → slice_get (all_keys xs) i ≡ Some k → P k
each_all P [] each i k is = let both : None ≡ Some k = is in absurd cc
each_all P (x ∷ xs) each i k is = each_append P (object_keys x.0 x.1.entries.items) (all_keys xs) (each 0 x.0 x.1 refl) (each_all P xs (λ j o z at. each (suc j) o z at)) i k is

rising_all : (xs : List (ℕ × ObjectEntries)) → ObjectsRise xs → KeyRises (all_keys xs)
rising_all [] rise = λ i j a b lt at_i. λ at_j. let both : None ≡ Some a = at_i in absurd cc
rising_all (x ∷ xs) rise =
    rising_append (object_keys x.0 x.1.entries.items) (all_keys xs) (rising_object x.0 x.1.entries.items x.1.rises) (rising_all xs (λ i j o k a b lt at_i at_j. rise (suc i) (suc j) o k a b (omega (arith, lt)) at_i at_j))
    (each_object (λ k. After k (all_keys xs)) x.0 x.1.entries.items (λ j d k lt is.
    each_all (Before k) xs (λ i o z at. each_object (Before k) o z.entries.items (λ n f l within of_l.
    let less : x.0 < o = rise 0 (suc i) x.0 o x.1 z (omega arith) refl at in
    inl (omega (arith, less, is.object, of_l.object))))))

-- ---- each is committed, and each that is committed stands there

is_in_object : (o c : ℕ) (p : CommittedPage) (es : List KeyEntry) → committed_of (find_by chunk es c) ≡ Some p → IsIn (record { key = record { object = o; chunk = c }; at = p }) (object_keys o es)
is_in_object o c p [] is = absurd cc
is_in_object o c p (e ∷ es) is = elim (cases_eq (chunk e) c) [
  | inl same ↦
      let here : find_by chunk (e ∷ es) c ≡ Some e = grind (arith, nat_tests, same) in
      let some : e.committed ≡ Some p = sym (ap committed_of here) ∙ is in
      let listed : committed_key o e ≡ Some (record { key = record { object = o; chunk = c }; at = p }) =
      ap (option_map (λ (q : CommittedPage). record { key = record { object = o; chunk = e.chunk }; at = q })) some ∙ ap (λ l. Some (record { key = record { object = o; chunk = l }; at = p })) same in
      subst (λ v. IsIn (record { key = record { object = o; chunk = c }; at = p }) (cons_option v (object_keys o es))) (sym listed) first
  | inr ne ↦
      let there : find_by chunk (e ∷ es) c ≡ find_by chunk es c = grind (arith, nat_tests, ne) in
      behind (committed_key o e) (is_in_object o c p es (sym (ap committed_of there) ∙ is))
] where
  behind : (v : Option CommittedKey) → IsIn (record { key = record { object = o; chunk = c }; at = p }) (object_keys o es) → IsIn (record { key = record { object = o; chunk = c }; at = p }) (cons_option v (object_keys o es))
  behind None s = s
  behind (Some x) s = later s

is_in_all : (o c : ℕ) (p : CommittedPage) (xs : List (ℕ × ObjectEntries)) → committed_of (option_and_then (entry_of c) (lookup (is_at (nat_cmp o)) xs)) ≡ Some p → IsIn (record { key = record { object = o; chunk = c }; at = p }) (all_keys xs)
is_in_all o c p [] is = absurd cc
is_in_all o c p (x ∷ xs) is = elim (cases_eq x.0 o) [
  | inl same ↦
      let here : lookup (is_at (nat_cmp o)) (x ∷ xs) ≡ Some x.1 = grind (arith, nat_tests, same) in
      is_in_left _ (object_keys x.0 x.1.entries.items) (all_keys xs) (subst (λ n. IsIn (record { key = record { object = n; chunk = c }; at = p }) (object_keys x.0 x.1.entries.items)) same
      (is_in_object x.0 c p x.1.entries.items (sym (ap (λ v. committed_of (option_and_then (entry_of c) v)) here) ∙ is)))
  | inr ne ↦
      let there : lookup (is_at (nat_cmp o)) (x ∷ xs) ≡ lookup (is_at (nat_cmp o)) xs = grind (arith, nat_tests, ne) in
      is_in_right _ (object_keys x.0 x.1.entries.items) (all_keys xs) (is_in_all o c p xs (sym (ap (λ v. committed_of (option_and_then (entry_of c) v)) there) ∙ is))
]

module _ (x : Index) where
  found_place : (j o : ℕ) (z : ObjectEntries) → slice_get x.shelf.objects.entries j ≡ Some (o, z) → get nat_cmp x.shelf.objects o ≡ Some z
  found_place j o z at = btree_map_get_place nat_cmp_total x.shelf.objects j o z x.shelf.ordered at

  listed_committed : (i : ℕ) (k : CommittedKey) → slice_get (all_keys x.shelf.objects.entries) i ≡ Some k → committed_pages x k.key.object k.key.chunk ≡ Some k.at
  listed_committed = each_all (λ k. committed_pages x k.key.object k.key.chunk ≡ Some k.at) x.shelf.objects.entries (λ j o z at. each_object (λ k. committed_pages x k.key.object k.key.chunk ≡ Some k.at) o z.entries.items (λ n d k lt is.
      let here : find_by chunk z.entries.items k.key.chunk ≡ Some (get_or z.entries.items n d) = find_at chunk z.entries.items z.rises k.key.chunk n (record { within = lt; number = λ f. ap chunk (get_or_default z.entries.items n f d lt) ∙ sym is.chunk_is }) d in
      ap (λ l. committed_pages x l k.key.chunk) is.object ∙ ap (λ v. committed_of (option_and_then (entry_of k.key.chunk) v)) (found_place j o z at) ∙ ap committed_of here ∙ is.page))

-- ---- its length

length_object : (o : ℕ) (es : List KeyEntry) → length (object_keys o es) ≡ weigh committed_one es
length_object o [] = refl
length_object o (e ∷ es) =
    let rest = length_object o es in
    let all : weigh committed_one (e ∷ es) ≡ committed_one e + weigh committed_one es = sum_by-cons committed_one e es in
    let one : length (cons_option (committed_key o e) (object_keys o es)) ≡ committed_one e + length (object_keys o es) = go e.committed in
    omega (arith, rest, all, one) where
      go : (p : Option CommittedPage) → length (cons_option (option_map (λ (q : CommittedPage). record { key = record { object = o; chunk = e.chunk }; at = q }) p) (object_keys o es)) ≡ option_map_or (λ (q : CommittedPage). 1) p 0 + length (object_keys o es)
      go None = omega arith
      go (Some p) = omega arith

length_all : (xs : List (ℕ × ObjectEntries)) → length (all_keys xs) ≡ sum_by (λ (z : ObjectEntries). weigh committed_one z.entries.items) (values_of xs)
length_all [] = refl
length_all (x ∷ xs) =
    let g = λ (z : ObjectEntries). weigh committed_one z.entries.items in
    let one = length-append (object_keys x.0 x.1.entries.items) (all_keys xs) in
    let here = length_object x.0 x.1.entries.items in
    let rest = length_all xs in
    let all : sum_by g (values_of (x ∷ xs)) ≡ g x.1 + sum_by g (values_of xs) = sum_by-cons g x.1 (values_of xs) in
    omega (arith, one, here, rest, all)

-- ---- so the blocks count the committed keys

key_at : (xs : List (ℕ × ObjectEntries)) (i o : ℕ) (z : ObjectEntries) → slice_get xs i ≡ Some (o, z) → (i < length (keys_of xs)) × ((d : ℕ) → get_or (keys_of xs) i d ≡ o)
key_at [] i o z is = absurd cc
key_at (x ∷ xs) zero o z is = let same : x ≡ (o, z) = cc in (omega arith, λ d. ap (λ (y : ℕ × ObjectEntries). y.0) same)
key_at (x ∷ xs) (suc i) o z is = let rest = key_at xs i o z is in (omega (arith, rest.0), rest.1)

objects_rise : (x : Index) → ObjectsRise x.shelf.objects.entries
objects_rise x i j o k y z lt at_i at_j =
    let es = x.shelf.objects.entries in
    let one = key_at es i o y at_i in
    let two = key_at es j k z at_j in
    let rise : get_or (keys_of es) i 0 < get_or (keys_of es) j 0 = below_from_sorted (keys_of es) i j 0 x.shelf.ordered lt two.0 in
    omega (arith, rise, one.1 0, two.1 0)

pub all_listed : (x : Index) → IsListOf (committed_pages x) (all_keys x.shelf.objects.entries)
all_listed x = record {
  each = listed_committed x;
  all = λ o c p is. is_in_place _ (all_keys x.shelf.objects.entries) (is_in_all o c p x.shelf.objects.entries is);
  rise = rising_all x.shelf.objects.entries (objects_rise x);
}

pub committed_counted : (t : Table) (x : Index) → CountsAgree t x → HasCommitted (committed_pages x) (committed_count t)
committed_counted t x agree = (all_keys x.shelf.objects.entries, all_listed x, length_all x.shelf.objects.entries ∙ sym (all_counted t x agree))
