-- The list that was gone through has the objects of the tree that is shown.
use Rattle.std.specs.Prelude.{◌≡◌, ◌↔◌, ◌<◌, ◌≤◌, ℕ, zero, suc, ◌+◌, List, [], ◌∷◌, ◌++◌, Bool, true, length, slice_get, map as list_map, nat_eq, Some, None}
use Rattle.std.specs.List.{list_any}
use Rattle.std.specs.FinMap as map
use Rattle.std.proofs.Common.{refl, sym, ◌∙◌, ap, subst, inl, inr, arith}
use Rattle.std.proofs.lemmas.Bool.{cases_Bool, cases_lt, cond-true, cond-false}
use Rattle.std.proofs.lemmas.Option.{slice_get_within}
use Rattle.page_tags.specs.Slots.{Entry}
use Rattle.volume_terms.specs.Sizes.{Sizes, root_number}
use Rattle.volume_terms.specs.laws.List.{push_before, push_last, place_of, mapped_at, slice_get_there}
use Rattle.posix_profile.specs.State.{Object, Dir, Objects}
use Rattle.posix_profile.specs.Names.{Names, Reached, root, below}
use Rattle.flash_tree.specs.Tree.{NewestMap, IsPageSize, ReadsDir, Shows, InFootprint}
use Rattle.flash_tree.specs.Mount.{Leads, Finds, with_new, ListEnd, Wrongly, Wholly, GoesThrough, ends, stops, goes}
use Rattle.flash_tree.specs.laws.Finding.{one_finding}
use Rattle.flash_tree.specs.laws.Shown.{Each, IsThere, ends_well}
use Rattle.flash_tree.specs.laws.Slot.{entry_slot}
use Rattle.pages.specs.Maps.{PageMap, has}
use Rattle.tree_walk.specs.Trees.{IsLookedUp}
use Rattle.mounting.specs.Footprints.{KeepsFootprint}
use Rattle.mounting.proofs.Footprints.{one_page}

-- the number stands on the list
abbrev pub IsOn : List ℕ → ℕ → Type 0
IsOn list o = (i : ℕ) × (slice_get list i ≡ Some o)

-- what stands on a list stays where it is
stays_with_new : (list named : List ℕ) (i o : ℕ) → slice_get list i ≡ Some o → slice_get (with_new list named) i ≡ Some o
stays_with_new list [] i o is = is
stays_with_new list (x ∷ named) i o is = elim (cases_Bool (list_any (nat_eq x) list)) [
  | inl on ↦ subst (λ l. slice_get l i ≡ Some o) (sym (cond-true (list_any (nat_eq x) list) (with_new list named) (with_new (list ++ x ∷ []) named) on)) (stays_with_new list named i o is)
  | inr off ↦ subst (λ l. slice_get l i ≡ Some o) (sym (cond-false (list_any (nat_eq x) list) (with_new list named) (with_new (list ++ x ∷ []) named) off))
      (stays_with_new (list ++ x ∷ []) named i o (push_before list x i o is))
]

-- what is added to a list stands on it
named_on : (list named : List ℕ) → Each (IsOn (with_new list named)) named
named_on list [] k c is = absurd cc
named_on list (o ∷ named) k c is = elim (cases_Bool (list_any (nat_eq o) list)) [
  | inl on ↦ subst (λ l. IsOn l c) (sym (cond-true (list_any (nat_eq o) list) (with_new list named) (with_new (list ++ o ∷ []) named) on))
      (go list k is (place_of list o on) (λ j at. named_on list named j c at))
  | inr off ↦ subst (λ l. IsOn l c) (sym (cond-false (list_any (nat_eq o) list) (with_new list named) (with_new (list ++ o ∷ []) named) off))
      (go (list ++ o ∷ []) k is (length list, push_last list o) (λ j at. named_on (list ++ o ∷ []) named j c at))
] where
  go : (l : List ℕ) (k : ℕ) → slice_get (o ∷ named) k ≡ Some c → IsOn l o → ((j : ℕ) → slice_get named j ≡ Some c → IsOn (with_new l named) c) → IsOn (with_new l named) c
  go l zero is at rest = let same : o ≡ c = cc in (at.0, stays_with_new l named at.0 c (at.1 ∙ ap Some same))
  go l (suc j) is at rest = rest j is

module _ (z : Sizes) (m : NewestMap) where
  -- what the object names is on the list
  abbrev IsThereOn : List ℕ → ℕ → Type 0
  IsThereOn list o = (named : List ℕ) × Finds z m o (Leads named) × Each (IsOn list) named

  -- so it is with the first n
  abbrev FirstThere : List ℕ → ℕ → Type 0
  FirstThere list n = (i o : ℕ) → i < n → slice_get list i ≡ Some o → IsThereOn list o

  first_more : (list named : List ℕ) (n o : ℕ) → slice_get list n ≡ Some o → Finds z m o (Leads named) → FirstThere list n → FirstThere (with_new list named) (n + 1)
  first_more list named n o at lookups there i x lt is = elim (cases_lt i n) [
    | inl before ↦
        let y = slice_get_there list i (let within = slice_get_within list n o at in omega arith) in
        let same : Some y.0 ≡ Some x = sym (stays_with_new list named i y.0 y.1) ∙ is in
        let one : y.0 ≡ x = cc in
        let t = there i x before (y.1 ∙ ap Some one) in
        (t.0, t.1, λ k c e. let on = t.2 k c e in (on.0, stays_with_new list named on.0 c on.1))
    | inr after ↦
        let here : i ≡ n = omega arith in
        let same : Some o ≡ Some x = sym (stays_with_new list named n o at) ∙ ap (slice_get (with_new list named)) (sym here) ∙ is in
        let one : o ≡ x = cc in
        subst (IsThereOn (with_new list named)) one (named, lookups, named_on list named)
  ]

  abbrev EndsThere : ℕ → ListEnd → Type 0
  EndsThere first (Wrongly wrong) = Unit {0}
  EndsThere first (Wholly list) = Each (IsThereOn list) list × (slice_get list 0 ≡ Some first)

  ends_there : (first : ℕ) (list : List ℕ) (n : ℕ) (end : ListEnd) → FirstThere list n → slice_get list 0 ≡ Some first → GoesThrough z m list n end → EndsThere first end
  ends_there first list n end there begins (ends len) = (λ i o is. there i o (let within = slice_get_within list i o is in omega arith) is, begins)
  ends_there first list n end there begins (stops o wrong is lookups) = tt
  ends_there first list n end there begins (goes o named is lookups on) =
      ends_there first (with_new list named) (n + 1) end (first_more list named n o is lookups there) (stays_with_new list named 0 first begins) on

  -- what each object of the list names is on the list, which begins with the first
  pub whole_there : (first : ℕ) (list : List ℕ) → GoesThrough z m (first ∷ []) 0 (Wholly list) → Each (IsThereOn list) list × (slice_get list 0 ≡ Some first)
  whole_there first list on = ends_there first (first ∷ []) 0 (Wholly list) (λ i o lt is. absurd (omega arith)) refl on

module _ (z : Sizes) (size : IsPageSize z.page_bytes) (m : PageMap) (objects : Objects) (shown : Shows z (has m) objects) (list : List ℕ) (on : GoesThrough z (has m) (root_number ∷ []) 0 (Wholly list)) where
  root_there : Each (IsThere z size (has m) (one_page m) objects shown) (root_number ∷ [])
  root_there zero c is =
      let same : root_number ≡ c = cc in
      let r = shown.tree.forest.root in
      subst (IsThere z size (has m) (one_page m) objects shown) same (Dir r.0 r.1, r.2)
  root_there (suc k) c is = let two : None ≡ Some c = is in absurd cc

  -- what is on the list is an object
  pub on_there : (i o : ℕ) → slice_get list i ≡ Some o → (x : Object) × (map.get objects o ≡ Some x)
  on_there = ends_well z size (has m) (one_page m) objects shown (root_number ∷ []) 0 (Wholly list) root_there on

  -- what a directory on the list names is on the list
  named_on_list : (d o : ℕ) (name : List ℕ) → IsOn list d → Names objects d name o → IsOn list o
  named_on_list d o name (i, at) names =
      let r : ReadsDir z (has m) d names.moment names.entries = shown.each d (Dir names.moment names.entries) names.directory_is in
      let t = (whole_there z (has m) root_number list on).0 i d at in
      let leads : Finds z (has m) d (Leads (list_map (λ entry. entry.object) r.slots)) =
      inr (r.fields, r.has, r.kind, r.slots, record { size = r.size; each = r.each; once = r.once }, refl) in
      let two : Leads t.0 ≡ Leads (list_map (λ entry. entry.object) r.slots) = one_finding z size (has m) (one_page m) d _ _ t.1 leads in
      let same : t.0 ≡ list_map (λ entry. entry.object) r.slots = cc in
      let s = entry_slot z (has m) d names.moment names.entries r name o names.object_is in
      t.2 s.0 o (ap (λ l. slice_get l s.0) same ∙ mapped_at (λ (entry : Entry). entry.object) r.slots s.0 s.1 s.2 ∙ ap Some s.4)

  reached_on : (o : ℕ) → Reached objects o → IsOn list o
  reached_on o root = (0, (whole_there z (has m) root_number list on).1)
  reached_on o (below {directory} {object} name up names) = named_on_list directory object name (reached_on directory up) names

  -- each object is on the list
  pub there_on : (o : ℕ) (x : Object) → map.get objects o ≡ Some x → IsOn list o
  there_on o x is = reached_on o (shown.tree.all_reached o x is)

  -- so the same keys are looked up
  pub same_keys : (o c : ℕ) → IsLookedUp z (has m) list o c ↔ InFootprint z (has m) objects o c
  same_keys o c = (
    λ l. let x = on_there l.place o l.listed in record { object = x.0; there = x.1; fields = l.fields; has = l.has; looks = l.looks },
    λ f. let at = there_on o f.object f.there in record { place = at.0; listed = at.1; fields = f.fields; has = f.has; looks = f.looks },
  )

-- as a law, over the bounds of a page's size
pub keys_are_footprint : (z : Sizes) (m : PageMap) (objects : Objects) (list : List ℕ) → 32 ≤ z.page_bytes → z.page_bytes ≤ 4096 → Shows z (has m) objects
    → GoesThrough z (has m) (root_number ∷ []) 0 (Wholly list) → (o c : ℕ) → IsLookedUp z (has m) list o c ↔ InFootprint z (has m) objects o c
keys_are_footprint z m objects list least most shown on = same_keys z (record { least = least; most = most }) m objects shown list on

pub test_keeps_footprint : (z : Sizes) (m : PageMap) (objects : Objects) (list : List ℕ) (keeps : ℕ → ℕ → Bool) → 32 ≤ z.page_bytes → z.page_bytes ≤ 4096 → Shows z (has m) objects
    → GoesThrough z (has m) (root_number ∷ []) 0 (Wholly list) → ((o c : ℕ) → (keeps o c ≡ true) ↔ IsLookedUp z (has m) list o c) → KeepsFootprint z m objects keeps
test_keeps_footprint z m objects list keeps least most shown on those o c =
    let same = keys_are_footprint z m objects list least most shown on o c in
    (λ stays. same.0 ((those o c).0 stays), λ looked. (those o c).1 (same.1 looked))
