-- The slots of all directories of a tree, one after the other: what its names are of.
use Rattle.std.specs.Prelude.{◌≡◌, ◌⊎◌, ◌<◌, ◌+◌, ℕ, zero, suc, List, [], ◌∷◌, ◌++◌, length, slice_get, map as list_map, Some}
use Rattle.std.proofs.Common.{refl, sym, ◌∙◌, ap, subst, inl, inr, arith}
use Rattle.std.proofs.lemmas.Bool.{cases_lt}
use Rattle.std.proofs.lemmas.List.{map-append}
use Rattle.std.specs.Cmp.Lexicographic.{nat_list_cmp_total}
use Rattle.std.specs.FinMap as map
use Rattle.page_tags.specs.Slots.{Entry}
use Rattle.volume_terms.specs.Sizes.{Sizes}
use Rattle.volume_terms.specs.laws.List.{mapped_at, at_mapped}
use Rattle.posix_profile.specs.State.{Name, Entries, Object, File, Dir, Objects}
use Rattle.posix_profile.specs.Names.{Names}
use Rattle.flash_tree.specs.Tree.{NewestMap, IsSingle, IsPageSize, ReadsAs, Shows}
use Rattle.flash_tree.specs.Mount.{Leads, Finds}
use Rattle.flash_tree.specs.laws.Finding.{kinds_apart, one_finding}
use Rattle.flash_tree.specs.laws.Shown.{pairs, found}
use Rattle.flash_tree.specs.laws.Slot.{entry_slot}
use Rattle.tree_walk.specs.Trees.{AreNamesOf, name_in, named_in}
use Rattle.tree_walk.specs.Walks.{IsOnce}
use Rattle.tree_walk.specs.declared.tree.NamedObject.{NamedObject}
use Rattle.tree_walk.proofs.Elements.{at_append, append_first, append_rest}

-- a slot of a directory
pub record NamedSlot : Type 0 where
  pub directory : ℕ
  pub entry : Entry

abbrev slot_in : ℕ → Entry → NamedSlot
slot_in directory entry = record { directory = directory; entry = entry }

-- what it names
abbrev pub name_of : NamedSlot → NamedObject
name_of slot = name_in slot.directory slot.entry.object

-- ---- the slots of one object

record AreSlotsAt (objects : Objects) (o : ℕ) (slots : List Entry) : Type 0 where
  each : (k : ℕ) (e : Entry) → slice_get slots k ≡ Some e → Names objects o e.name e.object
  once : (i j : ℕ) (a b : Entry) → slice_get slots i ≡ Some a → slice_get slots j ≡ Some b → a.name ≡ b.name → i ≡ j
  every : (name : Name) (c : ℕ) → Names objects o name c → (k : ℕ) × (e : Entry) × (slice_get slots k ≡ Some e) × (e.name ≡ name) × (e.object ≡ c)

module _ (z : Sizes) (size : IsPageSize z.page_bytes) (m : NewestMap) (single : IsSingle m) (objects : Objects) (shown : Shows z m objects) where
  slots_at : (o : ℕ) (x : Object) → map.get objects o ≡ Some x → ReadsAs z m o x → (named : List ℕ) → Finds z m o (Leads named)
      → (slots : List Entry) × AreSlotsAt objects o slots × (named ≡ list_map (λ e. e.object) slots)
  slots_at o (File moment bytes) is r named lookups = (
    [],
    record {
      each = λ k e at. absurd (nothing k e at);
      once = λ i j a b at. absurd (nothing i a at);
      every = λ name c n. let two : Some (File moment bytes) ≡ Some (Dir n.moment n.entries) = sym is ∙ n.directory_is in absurd cc;
    },
    none lookups,
  ) where
    nothing : (k : ℕ) (e : Entry) → slice_get [] k ≡ Some e → ⊥
    nothing k e at = cc

    none : Finds z m o (Leads named) → named ≡ []
    none (inl (f, has, kind, chunks, empty)) = empty
    none (inr (f, has, kind, slots, are, all)) = absurd (kinds_apart z size m single o r.fields f r.has has r.kind kind)
  slots_at o (Dir moment entries) is r named lookups =
      let leads : Finds z m o (Leads (list_map (λ (e : Entry). e.object) r.slots)) = inr (r.fields, r.has, r.kind, r.slots, record { size = r.size; each = r.each; once = r.once }, refl) in
      let two : Leads named ≡ Leads (list_map (λ (e : Entry). e.object) r.slots) = one_finding z size m single o _ _ lookups leads in (
        r.slots,
        record {
          each = λ k e at. record {
            moment = moment;
            entries = entries;
            directory_is = is;
            object_is = ap (λ (es : Entries). map.get es e.name) r.entries_are ∙ map.get-from_entries nat_list_cmp_total (pairs r.slots) e.name
                ∙ found r.slots k e at (λ j b there same. r.once j k b e there at same);
          };
          once = r.once;
          every = λ name c n.
              let dirs : Some (Dir moment entries) ≡ Some (Dir n.moment n.entries) = sym is ∙ n.directory_is in
              let same : entries ≡ n.entries = cc in
              entry_slot z m o moment entries r name c (ap (λ (es : Entries). map.get es name) same ∙ n.object_is);
        },
        (let same : named ≡ list_map (λ (e : Entry). e.object) r.slots = cc in same),
      )

-- ---- the slots of the first objects of a list

-- the names are those of the slots, and these are the slots of the first n objects of the list, each once
pub record AreSlotsOf (objects : Objects) (list : List ℕ) (n : ℕ) (all : List NamedSlot) (names : List NamedObject) : Type 0 where
  pub pairs_are : names ≡ list_map name_of all
  pub each : (i : ℕ) (s : NamedSlot) → slice_get all i ≡ Some s → (p : ℕ) × (p < n) × (slice_get list p ≡ Some s.directory) × Names objects s.directory s.entry.name s.entry.object
  pub once : (i j : ℕ) (s t : NamedSlot) → slice_get all i ≡ Some s → slice_get all j ≡ Some t → s.directory ≡ t.directory → s.entry.name ≡ t.entry.name → i ≡ j
  pub every : (p d c : ℕ) (name : Name) → p < n → slice_get list p ≡ Some d → Names objects d name c
      → (i : ℕ) × (s : NamedSlot) × (slice_get all i ≡ Some s) × (s.directory ≡ d) × (s.entry.name ≡ name) × (s.entry.object ≡ c)

names_mapped : (o : ℕ) (slots : List Entry) → list_map name_of (list_map (slot_in o) slots) ≡ named_in o (list_map (λ e. e.object) slots)
names_mapped o [] = refl
names_mapped o (e ∷ slots) = ap (λ (ns : List NamedObject). name_in o e.object ∷ ns) (names_mapped o slots)

module _ (objects : Objects) (list : List ℕ) (once : IsOnce list) (n o : ℕ) (at : slice_get list n ≡ Some o) (all : List NamedSlot) (before : List NamedObject) (a : AreSlotsOf objects list n all before)
    (slots : List Entry) (b : AreSlotsAt objects o slots) where
  abbrev more : List NamedSlot
  more = all ++ list_map (slot_in o) slots

  -- a slot of the longer list is one of the shorter, or one of the object
  cases : (i : ℕ) (s : NamedSlot) → slice_get more i ≡ Some s
      → (slice_get all i ≡ Some s) ⊎ ((k : ℕ) × (e : Entry) × (i ≡ length all + k) × (slice_get slots k ≡ Some e) × (slot_in o e ≡ s))
  cases i s is = elim (at_append all (list_map (slot_in o) slots) i s is) [
    | inl first ↦ inl first
    | inr rest ↦ let e = at_mapped (slot_in o) slots rest.0 s rest.2 in inr (rest.0, e.0, rest.1, e.1, e.2)
  ]

  -- a slot of an object before it is none of it
  apart : (i : ℕ) (s : NamedSlot) → slice_get all i ≡ Some s → s.directory ≡ o → ⊥
  apart i s is same = let p = a.each i s is in let one : p.0 ≡ n = once p.0 n o (p.2 ∙ ap Some same) at in omega (arith, one, p.1)

  slots_more : (names : List NamedObject) → names ≡ before ++ named_in o (list_map (λ e. e.object) slots) → AreSlotsOf objects list (n + 1) more names
  slots_more names are = record {
    pairs_are = are ∙ ap (λ (ns : List NamedObject). ns ++ named_in o (list_map (λ (e : Entry). e.object) slots)) a.pairs_are
        ∙ ap (λ (ns : List NamedObject). list_map name_of all ++ ns) (sym (names_mapped o slots)) ∙ sym (map-append name_of all (list_map (slot_in o) slots));
    each = λ i s is. elim (cases i s is) [
      | inl first ↦ let p = a.each i s first in (p.0, omega (arith, p.1), p.2, p.3)
      | inr (k, e, place, there, same) ↦ subst (λ (t : NamedSlot). (p : ℕ) × (p < n + 1) × (slice_get list p ≡ Some t.directory) × Names objects t.directory t.entry.name t.entry.object) same
          (n, omega arith, at, b.each k e there)
    ];
    once = λ i j s t is is' dirs names. elim (cases i s is) [
      | inl first ↦ elim (cases j t is') [
        | inl first' ↦ a.once i j s t first first' dirs names
        | inr (k, e, place, there, same) ↦ absurd (apart i s first (dirs ∙ sym (ap (λ (x : NamedSlot). x.directory) same)))
      ]
      | inr (k, e, place, there, same) ↦ elim (cases j t is') [
        | inl first' ↦ absurd (apart j t first' (sym dirs ∙ sym (ap (λ (x : NamedSlot). x.directory) same)))
        | inr (k', e', place', there', same') ↦
            let one : k ≡ k' = b.once k k' e e' there there' (ap (λ (x : NamedSlot). x.entry.name) same ∙ names ∙ sym (ap (λ (x : NamedSlot). x.entry.name) same')) in
            omega (arith, one, place, place')
      ]
    ];
    every = λ p d c name lt is names'. elim (cases_lt p n) [
      | inl first ↦ let s = a.every p d c name first is names' in (s.0, s.1, append_first all (list_map (slot_in o) slots) s.0 s.1 s.2, s.3, s.4, s.5)
      | inr last ↦
          let place : p ≡ n = omega (arith, lt, last) in
          let two : Some d ≡ Some o = sym is ∙ ap (slice_get list) place ∙ at in
          let same : d ≡ o = cc in
          let k = b.every name c (subst (λ q. Names objects q name c) same names') in
          (length all + k.0, slot_in o k.1, append_rest all (list_map (slot_in o) slots) k.0 (slot_in o k.1) (mapped_at (slot_in o) slots k.0 k.1 k.2), sym same, k.3, k.4)
    ];
  }

module _ (z : Sizes) (size : IsPageSize z.page_bytes) (m : NewestMap) (single : IsSingle m) (objects : Objects) (shown : Shows z m objects)
    (list : List ℕ) (once : IsOnce list) (there : (i o : ℕ) → slice_get list i ≡ Some o → (x : Object) × (map.get objects o ≡ Some x)) where
  pub all_slots : (n : ℕ) (names : List NamedObject) → AreNamesOf z m list n names → (all : List NamedSlot) × AreSlotsOf objects list n all names
  all_slots zero names none = (
    [],
    record {
      pairs_are = none;
      each = λ i s is. absurd (nothing i s is);
      once = λ i j s t is. absurd (nothing i s is);
      every = λ p d c name lt. absurd (omega (arith, lt));
    },
  ) where
    nothing : (i : ℕ) (s : NamedSlot) → slice_get [] i ≡ Some s → ⊥
    nothing i s is = cc
  all_slots (suc n) names (o, named, before, at, lookups, are, is) =
      let rest = all_slots n before are in
      let x = there n o at in
      let s = slots_at z size m single objects shown o x.0 x.1 (shown.each o x.0 x.1) named lookups in
      let more = slots_more objects list once n o at rest.0 before rest.1 s.0 s.1 names (is ∙ ap (λ (ns : List ℕ). before ++ named_in o ns) s.2) in
      let one : n + 1 ≡ suc n = omega arith in
      (rest.0 ++ list_map (slot_in o) s.0, subst (λ k. AreSlotsOf objects list k (rest.0 ++ list_map (slot_in o) s.0) names) one more)
