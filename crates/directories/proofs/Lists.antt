-- Lists of slots, and the entries that they make.
use Rattle.std.specs.Prelude.{◌≡◌, ◌≢◌, ◌⊎◌, ◌<◌, ℕ, zero, suc, ◌+◌, List, [], ◌∷◌, ◌++◌, length, take, set, Option, Some, None, slice_get}
use Rattle.std.specs.Ordering.{nat_cmp}
use Rattle.std.specs.Cmp.Lexicographic.{slice_cmp, nat_list_cmp_total}
use Rattle.std.specs.FinMap as map
use Rattle.std.proofs.Common.{refl, sym, ◌∙◌, ap, inl, inr, arith}
use Rattle.std.proofs.lemmas.Bool.{cases_eq}
use Rattle.std.proofs.lemmas.Option.{slice_get_within}
use Rattle.page_tags.specs.Slots.{Entry}
use Rattle.flash_tree.specs.Tree.{slot_pairs}
use Rattle.flash_tree.specs.laws.Slot.{slot_of_pair}
use Rattle.flash_tree.specs.laws.Pairs.{at_find}
use Rattle.flash_tree.specs.laws.Shown.{found}
use Rattle.flash_tree.specs.laws.SlotCounts.{AreOnce, entries_len as slots_len}
use Rattle.volume_terms.specs.laws.List.{get_push, push_before, push_last}
use Rattle.posix_profile.specs.laws.Name.{name_same}
use Rattle.posix_profile.specs.laws.Map.{cases_key, get_here, get_there, get_removed, removed_none}
use Rattle.posix_profile.specs.State.{Name, Entries}

-- ---- the entries of slots

module _ (slots : List Entry) (once : AreOnce slots) where
  -- each slot is found by its name
  found_slot : (k : ℕ) (e : Entry) → slice_get slots k ≡ Some e → map.find (slice_cmp nat_cmp) e.name (slot_pairs slots) ≡ Some e.object
  found_slot k e at = found slots k e at (λ j b bt same. once j k b e bt at same)

  module _ (entries : Entries) (are : entries ≡ map.from_entries (slot_pairs slots)) where
    got : (name : Name) → map.get entries name ≡ map.find (slice_cmp nat_cmp) name (slot_pairs slots)
    got name = ap (λ es. map.get es name) are ∙ map.get-from_entries nat_list_cmp_total (slot_pairs slots) name

    -- a slot's name leads to its object
    pub leads : (k : ℕ) (e : Entry) → slice_get slots k ≡ Some e → map.get entries e.name ≡ Some e.object
    leads k e at = got e.name ∙ found_slot k e at

    -- an entry stands in a slot
    pub slot_of : (name : Name) (object : ℕ) → map.get entries name ≡ Some object → (k : ℕ) × (e : Entry) × (slice_get slots k ≡ Some e) × (e.name ≡ name) × (e.object ≡ object)
    slot_of name object is =
        let at = at_find nat_list_cmp_total name_same (slot_pairs slots) name object (sym (got name) ∙ is) in
        let slot = slot_of_pair slots at.0 name object at.1 in
        (at.0, slot.0, slot.1, slot.2, slot.3)

    -- a name that no slot has leads nowhere
    pub none : (name : Name) → ((k : ℕ) (e : Entry) → slice_get slots k ≡ Some e → e.name ≢ name) → map.get entries name ≡ None
    none name absent = go (map.get entries name) refl where
      go : (x : Option ℕ) → map.get entries name ≡ x → map.get entries name ≡ None
      go None is = is
      go (Some object) is = let slot = slot_of name object is in absurd (absent slot.0 slot.1 slot.2 slot.3)

  -- entries to which the slots lead, and no other name, are theirs
  pub are_entries : (entries : Entries) → ((k : ℕ) (e : Entry) → slice_get slots k ≡ Some e → map.get entries e.name ≡ Some e.object)
      → ((name : Name) → ((k : ℕ) (e : Entry) → slice_get slots k ≡ Some e → e.name ≢ name) → map.get entries name ≡ None)
      → entries ≡ map.from_entries (slot_pairs slots)
  are_entries entries lead absent = map.same_map nat_list_cmp_total name_same entries (map.from_entries (slot_pairs slots)) (λ name. go name (map.find (slice_cmp nat_cmp) name (slot_pairs slots)) refl) where
    there : (name : Name) → map.get (map.from_entries {R = slice_cmp nat_cmp} (slot_pairs slots)) name ≡ map.find (slice_cmp nat_cmp) name (slot_pairs slots)
    there name = map.get-from_entries nat_list_cmp_total (slot_pairs slots) name

    go : (name : Name) (x : Option ℕ) → map.find (slice_cmp nat_cmp) name (slot_pairs slots) ≡ x → map.get entries name ≡ map.get (map.from_entries {R = slice_cmp nat_cmp} (slot_pairs slots)) name
    go name None is = absent name (λ k e at same.
        let two : Some e.object ≡ None = sym (found_slot k e at) ∙ ap (λ q. map.find (slice_cmp nat_cmp) q (slot_pairs slots)) same ∙ is in
        absurd cc) ∙ sym (there name ∙ is)
    go name (Some object) is =
        let at = at_find nat_list_cmp_total name_same (slot_pairs slots) name object is in
        let slot = slot_of_pair slots at.0 name object at.1 in
        ap (map.get entries) (sym slot.2) ∙ lead at.0 slot.0 slot.1 ∙ ap Some slot.3 ∙ sym (there name ∙ is)

-- ---- one slot more

module _ (slots : List Entry) (once : AreOnce slots) (entries : Entries) (are : entries ≡ map.from_entries (slot_pairs slots)) (entry : Entry) (absent : map.get entries entry.name ≡ None) where
  -- no slot has the name
  pub no_slot : (k : ℕ) (e : Entry) → slice_get slots k ≡ Some e → e.name ≢ entry.name
  no_slot k e is same = let two : Some e.object ≡ None = sym (leads slots once entries are k e is) ∙ ap (map.get entries) same ∙ absent in absurd cc

  pub once_push : AreOnce (slots ++ entry ∷ [])
  once_push i j a b at bt same = elim (get_push slots entry i a at) [
    | inl x ↦ elim (get_push slots entry j b bt) [
      | inl y ↦ once i j a b x.1 y.1 same
      | inr y ↦ absurd (no_slot i a x.1 (same ∙ ap (λ (e : Entry). e.name) y.1))
    ]
    | inr x ↦ elim (get_push slots entry j b bt) [
      | inl y ↦ absurd (no_slot j b y.1 (sym same ∙ ap (λ (e : Entry). e.name) x.1))
      | inr y ↦ x.0 ∙ sym y.0
    ]
  ]

  pub entries_push : map.insert entries entry.name entry.object ≡ map.from_entries (slot_pairs (slots ++ entry ∷ []))
  entries_push = are_entries (slots ++ entry ∷ []) once_push (map.insert entries entry.name entry.object)
      (λ k e at. elim (get_push slots entry k e at) [
        | inl x ↦ get_there nat_list_cmp_total name_same entries entry.name entry.object e.name (no_slot k e x.1) ∙ leads slots once entries are k e x.1
        | inr x ↦ ap (map.get (map.insert entries entry.name entry.object)) (ap (λ (y : Entry). y.name) x.1) ∙ get_here nat_list_cmp_total name_same entries entry.name entry.object
            ∙ ap (λ (y : Entry). Some y.object) (sym x.1)
      ])
      (λ name none_has.
      get_there nat_list_cmp_total name_same entries entry.name entry.object name (λ is. none_has (length slots) entry (push_last slots entry) (sym is))
      ∙ none slots once entries are name (λ k e at. none_has k e (push_before slots entry k e at)))

-- ---- a slot in place of another

pub put_len : (xs : List Entry) (i : ℕ) (e : Entry) → length (set xs i e) ≡ length xs
put_len [] i e = refl
put_len (x ∷ xs) zero e = refl
put_len (x ∷ xs) (suc i) e = ap suc (put_len xs i e)

pub get_put : (xs : List Entry) (i : ℕ) (e : Entry) (k : ℕ) (y : Entry) → slice_get (set xs i e) k ≡ Some y → ((k ≡ i) × (y ≡ e)) ⊎ ((k ≢ i) × (slice_get xs k ≡ Some y))
get_put [] i e k y is = absurd cc
get_put (x ∷ xs) zero e zero y is = inl (refl, cc)
get_put (x ∷ xs) zero e (suc k) y is = inr (λ same. omega (arith, same), is)
get_put (x ∷ xs) (suc i) e zero y is = inr (λ same. omega (arith, same), is)
get_put (x ∷ xs) (suc i) e (suc k) y is = elim (get_put xs i e k y is) [
  | inl here ↦ inl (ap suc here.0, here.1)
  | inr there ↦ inr (λ same. there.0 (omega (arith, same)), there.1)
]

pub put_here : (xs : List Entry) (i : ℕ) (e : Entry) → i < length xs → slice_get (set xs i e) i ≡ Some e
put_here [] i e less = absurd (omega (arith, less))
put_here (x ∷ xs) zero e less = refl
put_here (x ∷ xs) (suc i) e less = put_here xs i e (omega (arith, less))

pub put_there : (xs : List Entry) (i : ℕ) (e : Entry) (k : ℕ) (y : Entry) → k ≢ i → slice_get xs k ≡ Some y → slice_get (set xs i e) k ≡ Some y
put_there [] i e k y other is = is
put_there (x ∷ xs) zero e zero y other is = absurd (other refl)
put_there (x ∷ xs) zero e (suc k) y other is = is
put_there (x ∷ xs) (suc i) e zero y other is = is
put_there (x ∷ xs) (suc i) e (suc k) y other is = put_there xs i e k y (λ same. other (ap suc same)) is

module _ (slots : List Entry) (once : AreOnce slots) (entries : Entries) (are : entries ≡ map.from_entries (slot_pairs slots)) (i : ℕ) (e : Entry) (at_i : slice_get slots i ≡ Some e) (new : Entry) (name_is : new.name ≡ e.name) where
  -- the name that stood at a place
  named_at : (k : ℕ) (y : Entry) → slice_get (set slots i new) k ≡ Some y → (x : Entry) × (slice_get slots k ≡ Some x) × (x.name ≡ y.name)
  named_at k y is = elim (get_put slots i new k y is) [
    | inl here ↦ (e, ap (slice_get slots) here.0 ∙ at_i, sym name_is ∙ ap (λ (x : Entry). x.name) (sym here.1))
    | inr there ↦ (y, there.1, refl)
  ]

  pub once_put : AreOnce (set slots i new)
  once_put j k a b at bt same =
      let x = named_at j a at in
      let y = named_at k b bt in
      once j k x.0 y.0 x.1 y.1 (x.2 ∙ same ∙ sym y.2)

  pub entries_put : map.insert entries new.name new.object ≡ map.from_entries (slot_pairs (set slots i new))
  entries_put = are_entries (set slots i new) once_put (map.insert entries new.name new.object)
      (λ k y at. elim (get_put slots i new k y at) [
        | inl here ↦ ap (map.get (map.insert entries new.name new.object)) (ap (λ (x : Entry). x.name) here.1) ∙ get_here nat_list_cmp_total name_same entries new.name new.object
            ∙ ap (λ (x : Entry). Some x.object) (sym here.1)
        | inr there ↦ get_there nat_list_cmp_total name_same entries new.name new.object y.name (λ same. there.0 (once k i y e there.1 at_i (same ∙ name_is)))
            ∙ leads slots once entries are k y there.1
      ])
      (λ name none_has.
      let other : name ≢ new.name = λ is. none_has i new (put_here slots i new (slice_get_within slots i e at_i)) (sym is) in
      get_there nat_list_cmp_total name_same entries new.name new.object name other
      ∙ none slots once entries are name (λ k y at. elim (cases_eq k i) [
        | inl here ↦ let both : Some y ≡ Some e = sym at ∙ ap (slice_get slots) here ∙ at_i in let one : y ≡ e = cc in
            λ same. other (sym same ∙ ap (λ (x : Entry). x.name) one ∙ sym name_is)
        | inr there ↦ none_has k y (put_there slots i new k y there at)
      ]))

-- ---- one slot less

pub get_take : (n : ℕ) (xs : List Entry) (k : ℕ) (y : Entry) → slice_get (take n xs) k ≡ Some y → (k < n) × (slice_get xs k ≡ Some y)
get_take zero xs k y is = absurd cc
get_take (suc n) [] k y is = absurd cc
get_take (suc n) (x ∷ xs) zero y is = (omega arith, is)
get_take (suc n) (x ∷ xs) (suc k) y is = let rest = get_take n xs k y is in (omega (arith, rest.0), rest.1)

pub take_there : (n : ℕ) (xs : List Entry) (k : ℕ) (y : Entry) → k < n → slice_get xs k ≡ Some y → slice_get (take n xs) k ≡ Some y
take_there zero xs k y less is = absurd (omega (arith, less))
take_there (suc n) [] k y less is = is
take_there (suc n) (x ∷ xs) zero y less is = is
take_there (suc n) (x ∷ xs) (suc k) y less is = take_there n xs k y (omega (arith, less)) is

module _ (slots : List Entry) (once : AreOnce slots) (entries : Entries) (are : entries ≡ map.from_entries (slot_pairs slots)) (i : ℕ) (e : Entry) (at_i : slice_get slots i ≡ Some e)
    (last : ℕ) (len : length slots ≡ last + 1) (l : Entry) (at_last : slice_get slots last ≡ Some l) where
  -- the slots without slot i: the last one stands in its place
  abbrev pub fewer : List Entry
  fewer = take last (set slots i l)

  -- where a slot was before
  pub origin : (k : ℕ) (y : Entry) → slice_get fewer k ≡ Some y → (j : ℕ) × (slice_get slots j ≡ Some y) × (j ≢ i) × (k < last) × (((k ≡ i) × (j ≡ last)) ⊎ ((k ≢ i) × (j ≡ k)))
  origin k y is =
      let t = get_take last (set slots i l) k y is in
      elim (get_put slots i l k y t.1) [
        | inl here ↦ (last, at_last ∙ ap Some (sym here.1), λ same. omega (arith, same, here.0, t.0), t.0, inl (here.0, refl))
        | inr there ↦ (k, there.1, there.0, t.0, inr (there.0, refl))
      ]

  pub once_fewer : AreOnce fewer
  once_fewer j k a b at bt same =
      let x = origin j a at in
      let y = origin k b bt in
      let one : x.0 ≡ y.0 = once x.0 y.0 a b x.1 y.1 same in
      elim x.4 [
        | inl p ↦ elim y.4 [
          | inl q ↦ p.0 ∙ sym q.0
          | inr q ↦ absurd (omega (arith, one, p.1, q.1, y.3))
        ]
        | inr p ↦ elim y.4 [
          | inl q ↦ absurd (omega (arith, one, p.1, q.1, x.3))
          | inr q ↦ sym p.1 ∙ one ∙ q.1
        ]
      ]

  -- each other slot is still there
  stays : (k : ℕ) (y : Entry) → k ≢ i → slice_get slots k ≡ Some y → (j : ℕ) × (slice_get fewer j ≡ Some y)
  stays k y other at =
      let within = slice_get_within slots k y at in
      elim (cases_eq k last) [
        | inl is ↦
            let both : Some y ≡ Some l = sym at ∙ ap (slice_get slots) is ∙ at_last in
            let one : y ≡ l = cc in
            let low : i < last = omega (arith, slice_get_within slots i e at_i, len, other, is) in
            (i, take_there last (set slots i l) i y low (put_here slots i l (omega (arith, low, len)) ∙ ap Some (sym one)))
        | inr not ↦ (k, take_there last (set slots i l) k y (omega (arith, within, len, not)) (put_there slots i l k y other at))
      ]

  pub entries_fewer : map.remove entries e.name ≡ map.from_entries (slot_pairs fewer)
  entries_fewer = are_entries fewer once_fewer (map.remove entries e.name)
      (λ k y at.
      let x = origin k y at in
      get_removed nat_list_cmp_total name_same entries e.name y.name (λ same. x.2 (once x.0 i y e x.1 at_i same)) ∙ leads slots once entries are x.0 y x.1)
      (λ name none_has. elim (cases_key nat_list_cmp_total name_same name e.name) [
        | inl same ↦ ap (map.get (map.remove entries e.name)) same ∙ removed_none nat_list_cmp_total name_same entries e.name
        | inr other ↦ get_removed nat_list_cmp_total name_same entries e.name name other
            ∙ none slots once entries are name (λ k y at same. elim (cases_eq k i) [
              | inl here ↦ let both : Some y ≡ Some e = sym at ∙ ap (slice_get slots) here ∙ at_i in let one : y ≡ e = cc in
                  other (sym same ∙ ap (λ (x : Entry). x.name) one)
              | inr there ↦ let s = stays k y there at in none_has s.0 y s.1 same
            ])
      ])

-- ---- how many there are

pub entries_len : (slots : List Entry) → AreOnce slots → (entries : Entries) → entries ≡ map.from_entries (slot_pairs slots) → map.len entries ≡ length slots
entries_len slots once entries are = ap map.len are ∙ slots_len slots once
