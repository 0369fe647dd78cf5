-- One slot more of a directory.
use Rattle.std.specs.Prelude.{◌≡◌, ◌≢◌, ◌<◌, ◌≤◌, ℕ, zero, suc, ◌+◌, ◌*◌, ◌/◌, ◌%◌, List, [], ◌∷◌, ◌++◌, length, take, drop, Some, None, slice_get}
use Rattle.std.specs.Ordering.{nat_cmp}
use Rattle.std.specs.Cmp.Lexicographic.{slice_cmp, nat_list_cmp_total}
use Rattle.std.specs.FinMap as map
use Rattle.std.proofs.Common.{refl, sym, ◌∙◌, ap, subst, inl, inr, arith}
use Rattle.std.proofs.lemmas.List.{length-append, map-append}
use Rattle.std.proofs.lemmas.Nat.{div-mul-add, mod-mul-add}
use Rattle.page_tags.specs.Slots.{Entry, slot_bytes}
use Rattle.flash_tree.specs.Slots.{IsTreeSlot}
use Rattle.flash_tree.specs.Tree.{SlotIs}
use Rattle.name_index.specs.Hashes.{fnv1a}
use Rattle.pages.specs.Maps.{PageMap, has}
use Rattle.posix_profile.specs.State.{Name, Entries}
use Rattle.posix_profile.specs.laws.Map.{get_here, get_there}
use Rattle.volume_terms.specs.Sizes.{Sizes, page_slots}
use Rattle.volume_terms.specs.laws.List.{get_push, push_before, push_last, same_or_not}
use Rattle.posix_profile.specs.laws.Name.{name_same}
use Rattle.tree_walk.specs.Broken.{BreaksSlots, IsBrokenIn, IsNamedEarlier, IsNoSlot, IsSlotAt}
use Rattle.tree_walk.specs.SlotLists.{TakesEntry, TakesNone, AreSlotNames, HasSlots}
use Rattle.tree_walk.specs.declared.broken.Broken.{Broken}
use Rattle.tree_walk.specs.declared.broken.Rule.TheVariants as rules
use Rattle.tree_walk.specs.declared.directory.SlotPage.{SlotPage}
use Rattle.tree_walk.specs.declared.directory.Slots.{Slots}

-- a key has one page
pub one_page : (m : PageMap) (o c : ℕ) (xs ys : List ℕ) → m o c ≡ Some xs → m o c ≡ Some ys → xs ≡ ys
one_page m o c xs ys x y = let two : Some xs ≡ Some ys = sym x ∙ y in cc

-- ---- the names that were seen

put_here : (names : Entries) (name : Name) (o : ℕ) → map.get (map.insert names name o) name ≡ Some o
put_here names name o = get_here nat_list_cmp_total name_same names name o

put_there : (names : Entries) (name : Name) (o : ℕ) (other : Name) → other ≢ name → map.get (map.insert names name o) other ≡ map.get names other
put_there names name o other ne = get_there nat_list_cmp_total name_same names name o other ne

put_some : (names : Entries) (name : Name) (o : ℕ) (other : Name) → map.get names other ≢ None → map.get (map.insert names name o) other ≢ None
put_some names name o other some none = elim (same_or_not other name) [
  | inl same ↦ let two : Some o ≡ None = sym (put_here names name o) ∙ ap (map.get (map.insert names name o)) (sym same) ∙ none in absurd cc
  | inr ne ↦ some (sym (put_there names name o other ne) ∙ none)
]

names_push : (slots : List Entry) (names : Entries) (e : Entry) → AreSlotNames slots names → AreSlotNames (slots ++ e ∷ []) (map.insert names e.name e.object)
names_push slots names e a = record {
  each = λ i x is. elim (get_push slots e i x is) [
    | inl before ↦ put_some names e.name e.object x.name (a.each i x before.1)
    | inr last ↦ λ none.
        let two : Some e.object ≡ None = sym (put_here names e.name e.object) ∙ ap (λ (y : Entry). map.get (map.insert names e.name e.object) y.name) (sym last.1) ∙ none in
        absurd cc
  ];
  only = λ name o is. elim (same_or_not name e.name) [
    | inl same ↦ (length slots, e, push_last slots e, sym same)
    | inr ne ↦
        let s = a.only name o (sym (put_there names e.name e.object name ne) ∙ is) in
        (s.0, s.1, push_before slots e s.0 s.1 s.2, s.3)
  ];
}

-- ---- the slots

pub no_slots : (z : Sizes) (m : PageMap) (d : ℕ) (seen : Slots) → seen.names ≡ map.empty → seen.objects.items ≡ [] → seen.hashes.items ≡ [] → HasSlots z m d 0 seen
no_slots z m d seen names objects hashes = record {
  slots = [];
  are = record { size = refl; each = λ i e no'. absurd cc; once = λ i j a b no' at same. absurd cc };
  names = record { each = λ i e no'. absurd cc; only = λ name o is. let two : None ≡ Some o = sym (ap (λ (es : Entries). map.get es name) names ∙ map.get-empty (slice_cmp nat_cmp) name) ∙ is in absurd cc };
  objects = objects;
  hashes = hashes;
}

module _ (z : Sizes) (m : PageMap) (d n : ℕ) (old : Slots) (h : HasSlots z m d n old) (e : Entry) (slot : SlotIs z (has m) d n e) where
  at_end : SlotIs z (has m) d (length h.slots) e
  at_end = subst (λ i. SlotIs z (has m) d i e) h.are.size slot

  no_name : map.get old.names e.name ≡ None → (k : ℕ) (x : Entry) → slice_get h.slots k ≡ Some x → x.name ≢ e.name
  no_name absent k x is same = h.names.each k x is (ap (map.get old.names) same ∙ absent)

  pub one_more : (new : Slots) → TakesEntry e old new → HasSlots z m d (n + 1) new
  one_more new t = record {
    slots = h.slots ++ e ∷ [];
    are = record {
      size = omega (arith, length-append h.slots (e ∷ []), h.are.size);
      each = λ k x is. elim (get_push h.slots e k x is) [
        | inl before ↦ h.are.each k x before.1
        | inr last ↦ subst (λ y. SlotIs z (has m) d k y) (sym last.1) (subst (λ i. SlotIs z (has m) d i e) (sym last.0) at_end)
      ];
      once = λ i j a b at bt same. elim (get_push h.slots e i a at) [
        | inl x ↦ elim (get_push h.slots e j b bt) [
          | inl y ↦ h.are.once i j a b x.1 y.1 same
          | inr y ↦ absurd (no_name t.was_new i a x.1 (same ∙ ap (λ (s : Entry). s.name) y.1))
        ]
        | inr x ↦ elim (get_push h.slots e j b bt) [
          | inl y ↦ absurd (no_name t.was_new j b y.1 (sym same ∙ ap (λ (s : Entry). s.name) x.1))
          | inr y ↦ x.0 ∙ sym y.0
        ]
      ];
    };
    names = subst (AreSlotNames (h.slots ++ e ∷ [])) (sym t.names) (names_push h.slots old.names e h.names);
    objects = t.objects ∙ ap (λ os. os ++ e.object ∷ []) h.objects ∙ sym (map-append (λ (s : Entry). s.object) h.slots (e ∷ []));
    hashes = t.hashes ∙ ap (λ hs. hs ++ fnv1a e.name ∷ []) h.hashes ∙ sym (map-append (λ (s : Entry). fnv1a s.name) h.slots (e ∷ []));
  }

  -- a slot of a name that was seen
  pub name_twice : (o : ℕ) → map.get old.names e.name ≡ Some o → IsNamedEarlier z (has m) d n
  name_twice o is =
      let s = h.names.only e.name o is in
      let early : s.0 < n = omega (arith, h.are.size, within h.slots s.0 s.1 s.2) in
      record { j = s.0; earlier = early; first = s.1; second = e; first_is = h.are.each s.0 s.1 s.2; second_is = slot; same = s.3 }
    where
      within : (xs : List Entry) (i : ℕ) (x : Entry) → slice_get xs i ≡ Some x → i < length xs
      within [] i x is = absurd cc
      within (y ∷ xs) zero x is = omega arith
      within (y ∷ xs) (suc i) x is = let lt = within xs i x is in omega arith

module _ (z : Sizes) (m : PageMap) (d c : ℕ) where
  -- a slot of a chunk's page is one of the directory
  pub slot_of_page : (k : ℕ) (e : Entry) (page : List ℕ) → k < page_slots z → m d (1 + c) ≡ Some page → IsTreeSlot e → take 272 (drop (272 * k) page) ≡ slot_bytes e → SlotIs z (has m) d (c * page_slots z + k) e
  slot_of_page k e page less is valid bytes =
      let n : ℕ = page_slots z in
      let chunk : (c * n + k) / n ≡ c = div-mul-add c n k less in
      let place : (c * n + k) % n ≡ k = mod-mul-add c n k less in
      (page, subst (λ j. m d (1 + j) ≡ Some page) (sym chunk) is, valid, ap (λ j. take 272 (drop (272 * j) page)) place ∙ bytes)

  -- where a slot of the chunk's page is among those of the directory
  pub is_slot_at : (total k : ℕ) → k < page_slots z → c * page_slots z + k < total → IsSlotAt z total (1 + c) k (c * page_slots z + k)
  is_slot_at total k less within =
      let n : ℕ = page_slots z in
      let chunk : (c * n + k) / n ≡ c = div-mul-add c n k less in
      let place : (c * n + k) % n ≡ k = mod-mul-add c n k less in
      record { within = within; in_chunk = ap (λ j. 1 + j) (sym chunk); at = sym place }

  -- bytes of a page that are no slot are none of the directory's
  pub no_slot_of_page : (k : ℕ) (page : List ℕ) → k < page_slots z → m d (1 + c) ≡ Some page
      → ((e : Entry) → IsTreeSlot e → take 272 (drop (272 * k) page) ≢ slot_bytes e) → IsNoSlot z (has m) (record { object = d; chunk = 1 + c }) (c * page_slots z + k)
  no_slot_of_page k page less is none =
      let n : ℕ = page_slots z in
      let chunk : (c * n + k) / n ≡ c = div-mul-add c n k less in
      let place : (c * n + k) % n ≡ k = mod-mul-add c n k less in
      record {
        page = page;
        there = is;
        none = λ e s.
            let same : page ≡ s.0 = one_page m d (1 + c) page s.0 is (subst (λ j. m d (1 + j) ≡ Some s.0) chunk s.1) in
            none e s.2 (ap (λ (xs : List ℕ). take 272 (drop (272 * k) xs)) same ∙ ap (λ j. take 272 (drop (272 * j) s.0)) (sym place) ∙ s.3);
      }

  -- where a chunk has no page, its first slot is missing
  pub no_page : (total : ℕ) → 1 ≤ page_slots z → c * page_slots z < total → m d (1 + c) ≡ None → BreaksSlots z (has m) total (record { object = d; chunk = 1 + c }) rules.ChunkMissing
  no_page total some within is =
      let n : ℕ = page_slots z in
      let here : (c * n + 0) / n ≡ c = div-mul-add c n 0 (omega (arith, some)) in
      (λ page at. let two : None ≡ Some page = sym is ∙ at in cc, (c * n + 0, omega (arith, within), ap (λ j. 1 + j) (sym here)))

-- what is no slot, or has a name that was seen, breaks a rule of the directory
pub taken_none : (z : Sizes) (m : PageMap) (at : SlotPage) (k : ℕ) (page : List ℕ) (total : ℕ) (old : Slots) → k < page_slots z → at.number * page_slots z + k < total
    → m at.directory (1 + at.number) ≡ Some page → HasSlots z m at.directory (at.number * page_slots z + k) old → (bytes : List ℕ) → bytes ≡ take 272 (drop (272 * k) page)
    → (b : Broken) → TakesNone bytes at k old b → IsBrokenIn z m at.directory total b
taken_none z m at k page total old less within there h bytes is b (inl (broken, none)) =
    subst (IsBrokenIn z m at.directory total) (sym broken)
    (refl, (at.number * page_slots z + k, is_slot_at z m at.directory at.number total k less within, no_slot_of_page z m at.directory at.number k page less there (λ e valid same. none e valid (is ∙ same))))
taken_none z m at k page total old less within there h bytes is b (inr (broken, (e, valid, same, (o, seen)))) =
    subst (IsBrokenIn z m at.directory total) (sym broken) (
      refl,
      (
        at.number * page_slots z + k,
        is_slot_at z m at.directory at.number total k less within,
        name_twice z m at.directory (at.number * page_slots z + k) old h e (slot_of_page z m at.directory at.number k e page less there valid (sym is ∙ same)) o seen,
      ),
    )
