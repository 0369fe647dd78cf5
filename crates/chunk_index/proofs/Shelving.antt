-- What a change of one object's entries does to what is reported of all keys.
use Rattle.std.proofs.Common.{◌≡◌, ◌≢◌, ℕ, suc, ◌+◌, ◌<◌, false, List, [], ◌∷◌, length, get_or, Option, Some, None, Result, Ok, Err, IsSome, IfSome, OnOk, OnErr, is_some, refl, sym, ap, ◌∙◌, arith, inl, inr}
use mathlib.Core.Bool.{false≢true}
use Rattle.std.specs.Option.{option_and_then, option_map, unwrap_or}
use Rattle.std.specs.List.{sum_by}
use Rattle.std.specs.Ordering.{nat_cmp}
use Rattle.std.specs.Cmp.{nat_cmp_total}
use Rattle.std.specs.Map.{lookup, values_of, remove_entry, set_value}
use Rattle.std.specs.BTreeMap.{is_at, get, values, insert_entry, WritesThrough, Updates, IsOrdered}
use Rattle.std.proofs.lemmas.Bool.{cases_eq}
use Rattle.std.proofs.lemmas.Bool.Decides.{nat_tests}
use Rattle.std.proofs.lemmas.Map.Entries.{sum_by-set_value, sum_by-remove_entry, sum_by-insert_entry}
use Rattle.volume_terms.specs.laws.Number.{not_at}
use Rattle.chunk_index.specs.declared.entry.KeyEntry.{KeyEntry}
use Rattle.chunk_index.specs.declared.object.ObjectEntries.{ObjectEntries}
use Rattle.chunk_index.specs.Lists.{find_by}
use Rattle.chunk_index.specs.Entries.{chunk, weight, weigh, Alters}
use Rattle.chunk_index.specs.Shelves.{ObjectMap, entry_of, look, total, AltersKey, SameEntries}

-- what an object's entries tell
pub look_in : (m : ObjectMap) (o c : ℕ) (x : ObjectEntries) → get nat_cmp m o ≡ Some x → look m o c ≡ find_by chunk x.entries.items c
look_in m o c x found = ap (option_and_then (entry_of c)) found

-- what is reported of the keys of another object stays
pub look_other : (m n : ObjectMap) (k l : ℕ) → get nat_cmp n k ≡ get nat_cmp m k → look n k l ≡ look m k l
look_other m n k l same = ap (option_and_then (entry_of l)) same

-- where the entries of one object change at one chunk, and no other object does
pub alters_in : (m n : ObjectMap) (o c : ℕ) (to : Option KeyEntry) (x y : ObjectEntries) → get nat_cmp m o ≡ Some x → get nat_cmp n o ≡ Some y
    → ((k : ℕ) → k ≢ o → get nat_cmp n k ≡ get nat_cmp m k) → ((f : KeyEntry → ℕ) → total f n + weigh f x.entries.items ≡ total f m + weigh f y.entries.items)
    → Alters c to x.entries.items y.entries.items → AltersKey o c to m n
alters_in m n o c to x y was is others sums alters = record {
  here = look_in n o c y is ∙ alters.here;
  others = λ k l differs. elim (cases_eq k o) [
    | inr ne ↦ look_other m n k l (others k ne)
    | inl e ↦ elim differs [
      | inl ne ↦ absurd (ne e)
      | inr ne ↦ ap (λ j. look n j l) e ∙ look_in n o l y is ∙ alters.others l ne ∙ sym (look_in m o l x was) ∙ ap (λ j. look m j l) (sym e)
    ]
  ];
  weighs = λ f.
      let all : total f n + weigh f x.entries.items ≡ total f m + weigh f y.entries.items = sums f in
      let one : weigh f y.entries.items + weight f (find_by chunk x.entries.items c) ≡ weigh f x.entries.items + weight f to = alters.weighs f in
      let reported : weight f (look m o c) ≡ weight f (find_by chunk x.entries.items c) = ap (weight f) (look_in m o c x was) in
      omega (arith, all, one, reported);
}

module _ (o : ℕ) (m n : ObjectMap) (x y : ObjectEntries) (found : get nat_cmp m o ≡ Some x) (through : WritesThrough nat_cmp (nat_cmp o) m y n) where
  pub there : IsSome (get nat_cmp m o)
  there = rw found refl

  pub sums : (f : KeyEntry → ℕ) → total f n + weigh f x.entries.items ≡ total f m + weigh f y.entries.items
  sums f =
      let g = λ (z : ObjectEntries). weigh f z.entries.items in
      let set : sum_by g (values n) ≡ sum_by g (values_of (set_value (is_at (nat_cmp o)) m.entries y)) = ap (λ es. sum_by g (values_of es)) through.0 in
      let one = sum_by-set_value g (is_at (nat_cmp o)) m.entries x y found in
      omega (arith, set, one)

  -- what was written through a loan of an object
  pub written : (c : ℕ) (to : Option KeyEntry) → Alters c to x.entries.items y.entries.items → AltersKey o c to m n
  written c to = alters_in m n o c to x y found (through.3 there).1 (λ k ne. (through.3 there).2 k (not_at o k ne)) sums

one_there : (v : Option KeyEntry) → IsSome v → weight (λ (x : KeyEntry). 1) v ≡ 1
one_there None is = absurd (false≢true is)
one_there (Some x) is = refl

-- the same entries, where a key without one was looked for in vain
pub same_entries : (m : ObjectMap) → SameEntries m m
same_entries m = record { looks = λ o c. refl; weighs = λ f. refl }

pub same_on : {m n p : ObjectMap} → SameEntries m n → SameEntries n p → SameEntries m p
same_on a b = record { looks = λ o c. b.looks o c ∙ a.looks o c; weighs = λ f. b.weighs f ∙ a.weighs f }

-- an object without entries more
pub object_more : (o : ℕ) (m n : ObjectMap) (x : ObjectEntries) → x.entries.items ≡ [] → get nat_cmp m o ≡ None → IsOrdered nat_cmp m
    → n.entries ≡ insert_entry nat_cmp m.entries o x → Updates nat_cmp m n o (Some x) → SameEntries m n
object_more o m n x empty none ordered inserts updates = record {
  looks = λ k c. elim (cases_eq k o) [
    | inr ne ↦ look_other m n k c (updates.2 k (not_at o k ne))
    | inl e ↦
        let was : look m o c ≡ None = ap (option_and_then (entry_of c)) none in
        let is : look n o c ≡ find_by chunk x.entries.items c = look_in n o c x updates.1 in
        ap (λ j. look n j c) e ∙ is ∙ ap (λ es. find_by chunk es c) empty ∙ sym was ∙ ap (λ j. look m j c) (sym e)
  ];
  weighs = λ f.
      let g = λ (z : ObjectEntries). weigh f z.entries.items in
      let all = sum_by-insert_entry g nat_cmp_total m.entries o x ordered in
      let nothing : unwrap_or (option_map g (get nat_cmp m o)) 0 ≡ 0 = ap (λ v. unwrap_or (option_map g v) 0) none in
      let zero : weigh f x.entries.items ≡ 0 = ap (weigh f) empty in
      let is : total f n ≡ sum_by g (values_of (insert_entry nat_cmp m.entries o x)) = ap (λ es. sum_by g (values_of es)) inserts in
      omega (arith, all, nothing, zero, is);
}

-- and one less
pub object_less : (o : ℕ) (m n : ObjectMap) (x : ObjectEntries) → x.entries.items ≡ [] → get nat_cmp m o ≡ Some x
    → n.entries ≡ remove_entry (is_at (nat_cmp o)) m.entries → Updates nat_cmp m n o None → SameEntries m n
object_less o m n x empty found removes updates = record {
  looks = λ k c. elim (cases_eq k o) [
    | inr ne ↦ look_other m n k c (updates.2 k (not_at o k ne))
    | inl e ↦
        let was : look m o c ≡ find_by chunk x.entries.items c = look_in m o c x found in
        let is : look n o c ≡ None = ap (option_and_then (entry_of c)) updates.1 in
        ap (λ j. look n j c) e ∙ is ∙ sym (was ∙ ap (λ es. find_by chunk es c) empty) ∙ ap (λ j. look m j c) (sym e)
  ];
  weighs = λ f.
      let g = λ (z : ObjectEntries). weigh f z.entries.items in
      let all = sum_by-remove_entry g (is_at (nat_cmp o)) m.entries in
      let nothing : unwrap_or (option_map g (get nat_cmp m o)) 0 ≡ 0 = ap (λ v. unwrap_or (option_map g v) 0) found ∙ ap (weigh f) empty in
      let is : total f n ≡ sum_by g (values_of (remove_entry (is_at (nat_cmp o)) m.entries)) = ap (λ es. sum_by g (values_of es)) removes in
      omega (arith, all, nothing, is);
}

-- a loan through which the same entries were written
pub written_same : (o : ℕ) (m n : ObjectMap) (x y : ObjectEntries) → get nat_cmp m o ≡ Some x → WritesThrough nat_cmp (nat_cmp o) m y n → y.entries.items ≡ x.entries.items → SameEntries m n
written_same o m n x y found through same = record {
  looks = λ k c. elim (cases_eq k o) [
    | inr ne ↦ look_other m n k c ((through.3 (rw found refl)).2 k (not_at o k ne))
    | inl e ↦
        let was : look m o c ≡ find_by chunk x.entries.items c = look_in m o c x found in
        let is : look n o c ≡ find_by chunk y.entries.items c = look_in n o c y (through.3 (rw found refl)).1 in
        ap (λ j. look n j c) e ∙ is ∙ ap (λ es. find_by chunk es c) same ∙ sym was ∙ ap (λ j. look m j c) (sym e)
  ];
  weighs = λ f.
      let one : total f n + weigh f x.entries.items ≡ total f m + weigh f y.entries.items = sums o m n x y found through f in
      let e : weigh f y.entries.items ≡ weigh f x.entries.items = ap (weigh f) same in
      omega (arith, one, e);
}

-- one entry more, and one less
pub size_more : (m n : ObjectMap) (o c : ℕ) (e : KeyEntry) → AltersKey o c (Some e) m n → look m o c ≡ None → (size : ℕ) → total (λ (x : KeyEntry). 1) m ≡ size → total (λ (x : KeyEntry). 1) n ≡ size + 1
size_more m n o c e alters none size was =
    let one = alters.weighs (λ (x : KeyEntry). 1) in
    let zero : weight (λ (x : KeyEntry). 1) (look m o c) ≡ 0 = ap (weight (λ (x : KeyEntry). 1)) none in
    omega (arith, one, zero, was)

-- an object that has no entries is taken out
pub bare_less : (o : ℕ) (m n : ObjectMap) → IfSome (get nat_cmp m o) (λ (x : ObjectEntries). x.entries.items ≡ []) → n.entries ≡ remove_entry (is_at (nat_cmp o)) m.entries
    → Updates nat_cmp m n o None → SameEntries m n
bare_less o m n bare removes updates = go (get nat_cmp m o) refl bare where
  go : (v : Option ObjectEntries) → get nat_cmp m o ≡ v → IfSome v (λ (x : ObjectEntries). x.entries.items ≡ []) → SameEntries m n
  go (Some x) is empty = object_less o m n x empty is removes updates
  go None is empty = record {
    looks = λ k c. elim (cases_eq k o) [
      | inr ne ↦ look_other m n k c (updates.2 k (not_at o k ne))
      | inl e ↦ ap (λ j. look n j c) e ∙ ap (option_and_then (entry_of c)) updates.1 ∙ sym (ap (option_and_then (entry_of c)) is) ∙ ap (λ j. look m j c) (sym e)
    ];
    weighs = λ f.
        let g = λ (z : ObjectEntries). weigh f z.entries.items in
        let all = sum_by-remove_entry g (is_at (nat_cmp o)) m.entries in
        let nothing : unwrap_or (option_map g (get nat_cmp m o)) 0 ≡ 0 = ap (λ v. unwrap_or (option_map g v) 0) is in
        let new : total f n ≡ sum_by g (values_of (remove_entry (is_at (nat_cmp o)) m.entries)) = ap (λ es. sum_by g (values_of es)) removes in
        omega (arith, all, nothing, new);
  }

none_if : {X : Type 0} (v : Option X) → is_some v ≡ false → v ≡ None
none_if None is = refl
none_if (Some x) is = absurd (false≢true (sym is))

-- the same map has the same entries
same_map_entries : (m n : ObjectMap) → n.entries ≡ m.entries → SameEntries m n
same_map_entries m n same = record {
  looks = λ o c. ap (λ es. option_and_then (entry_of c) (lookup (is_at (nat_cmp o)) es)) same;
  weighs = λ f. ap (λ es. sum_by (λ (z : ObjectEntries). weigh f z.entries.items) (values_of es)) same;
}

-- an object that is put where none was, or is refused
pub object_put : {E : Type 0} (o : ℕ) (m n : ObjectMap) (x : ObjectEntries) → x.entries.items ≡ [] → is_some (get nat_cmp m o) ≡ false → (r : Result (Option ObjectEntries) E) → IsOrdered nat_cmp m
    → OnOk r (n.entries ≡ insert_entry nat_cmp m.entries o x) → OnOk r (Updates nat_cmp m n o (Some x)) → OnErr r (n.entries ≡ m.entries) → SameEntries m n
object_put o m n x empty absent (Ok v) ordered inserts updates err = object_more o m n x empty (none_if _ absent) ordered inserts updates
object_put o m n x empty absent (Err e) ordered inserts updates err = same_map_entries m n err

-- an entry that is found among those of an object is of the chunk
pub found_chunk : (es : List KeyEntry) (c : ℕ) (e : KeyEntry) → find_by chunk es c ≡ Some e → chunk e ≡ c
found_chunk [] c e is = absurd cc
found_chunk (x ∷ es) c e is = elim (cases_eq (chunk x) c) [
  | inl at ↦
      let here : find_by chunk (x ∷ es) c ≡ Some x = grind (arith, nat_tests, at) in
      let both : Some x ≡ Some e = sym here ∙ is in
      let same : x ≡ e = cc in
      ap chunk (sym same) ∙ at
  | inr ne ↦ let there : find_by chunk (x ∷ es) c ≡ find_by chunk es c = grind (arith, nat_tests, ne) in found_chunk es c e (sym there ∙ is)
]

-- and so is one that is found among all
pub look_chunk : (m : ObjectMap) (o c : ℕ) (e : KeyEntry) → look m o c ≡ Some e → e.chunk ≡ c
look_chunk m o c e is = go (get nat_cmp m o) refl where
  go : (v : Option ObjectEntries) → get nat_cmp m o ≡ v → chunk e ≡ c
  go None none = let both : None ≡ Some e = sym (ap (option_and_then (entry_of c)) none) ∙ is in absurd cc
  go (Some x) some = found_chunk x.entries.items c e (sym (ap (option_and_then (entry_of c)) some) ∙ is)

-- it stands at a place
pub found_place : (es : List KeyEntry) (c : ℕ) (e : KeyEntry) → find_by chunk es c ≡ Some e → (j : ℕ) × (j < length es) × (get_or es j e ≡ e)
found_place [] c e is = absurd cc
found_place (x ∷ es) c e is = elim (cases_eq (chunk x) c) [
  | inl at ↦
      let here : find_by chunk (x ∷ es) c ≡ Some x = grind (arith, nat_tests, at) in
      let both : Some x ≡ Some e = sym here ∙ is in
      let same : x ≡ e = cc in
      (0, omega arith, same)
  | inr ne ↦
      let there : find_by chunk (x ∷ es) c ≡ find_by chunk es c = grind (arith, nat_tests, ne) in
      let rest = found_place es c e (sym there ∙ is) in
      (suc rest.0, omega (arith, rest.1), rest.2)
]
