-- The list of a tree that was gone through has the numbers of the objects that are shown, each once.
use Rattle.std.specs.Prelude.{◌≡◌, ◌<◌, ◌+◌, ℕ, zero, suc, List, [], ◌∷◌, length, slice_get, map as list_map, Some}
use Rattle.std.proofs.Common.{refl, sym, ◌∙◌, ap, subst, inl, inr, arith}
use Rattle.std.proofs.lemmas.Bool.{cases_lt}
use Rattle.std.specs.FinMap as map
use Rattle.std.proofs.lemmas.Option.{slice_get_within}
use Rattle.page_tags.specs.Slots.{Entry}
use Rattle.volume_terms.specs.Sizes.{Sizes, root_number}
use Rattle.volume_terms.specs.laws.List.{mapped_at, slice_get_there}
use Rattle.posix_profile.specs.State.{Object, Dir, Objects}
use Rattle.posix_profile.specs.Names.{Reached, root, below}
use Rattle.flash_tree.specs.Tree.{NewestMap, IsSingle, IsPageSize, Shows}
use Rattle.flash_tree.specs.Mount.{Leads, Finds, with_new, ListEnd, Wrongly, Wholly, GoesThrough, ends, stops, goes}
use Rattle.flash_tree.specs.laws.Finding.{one_finding}
use Rattle.flash_tree.specs.laws.Shown.{IsThere, Each, ends_well}
use Rattle.flash_tree.specs.laws.Slot.{entry_slot}
use Rattle.tree_walk.specs.Walks.{IsOn, IsOnce}
use Rattle.tree_walk.specs.laws.Lists.{added}

module _ (z : Sizes) (size : IsPageSize z.page_bytes) (m : NewestMap) (single : IsSingle m) where
  -- what the first n of the list name stands on it
  abbrev AreClosed : List ℕ → ℕ → Type 0
  AreClosed list n = (i o : ℕ) (named : List ℕ) → i < n → slice_get list i ≡ Some o → Finds z m o (Leads named) → (k c : ℕ) → slice_get named k ≡ Some c → IsOn list c

  record IsWhole (list : List ℕ) : Type 0 where
    once : IsOnce list
    begins : slice_get list 0 ≡ Some root_number
    closed : AreClosed list (length list)

  abbrev EndsWhole : ListEnd → Type 0
  EndsWhole (Wrongly wrong) = Unit {0}
  EndsWhole (Wholly list) = IsWhole list

  closed_more : (list : List ℕ) (n o : ℕ) (named : List ℕ) → slice_get list n ≡ Some o → Finds z m o (Leads named) → AreClosed list n → AreClosed (with_new list named) (n + 1)
  closed_more list n o named at lookups closed i x ns lt is leads k c there =
      let b = added list named in
      elim (cases_lt i n) [
        | inl before ↦
            let y = slice_get_there list i (let within = slice_get_within list n o at in omega (arith, before, within)) in
            let two : Some y.0 ≡ Some x = sym (b.stays i y.0 y.1) ∙ is in
            let one : y.0 ≡ x = cc in
            let on = closed i x ns before (y.1 ∙ ap Some one) leads k c there in
            (on.0, b.stays on.0 c on.1)
        | inr after ↦
            let here : i ≡ n = omega (arith, lt, after) in
            let two : Some x ≡ Some o = sym is ∙ ap (slice_get (with_new list named)) here ∙ b.stays n o at in
            let one : x ≡ o = cc in
            let same : Leads ns ≡ Leads named = one_finding z size m single o _ _ (subst (λ p. Finds z m p (Leads ns)) one leads) lookups in
            let lists : ns ≡ named = cc in
            b.on k c (ap (λ (l : List ℕ). slice_get l k) (sym lists) ∙ there)
      ]

  goes_whole : (list : List ℕ) (n : ℕ) (end : ListEnd) → IsOnce list → slice_get list 0 ≡ Some root_number → AreClosed list n → GoesThrough z m list n end → EndsWhole end
  goes_whole list n end once begins closed (ends len) = record { once = once; begins = begins; closed = subst (AreClosed list) (sym len) closed }
  goes_whole list n end once begins closed (stops o wrong is lookups) = tt
  goes_whole list n end once begins closed (goes o named is lookups on) =
      let b = added list named in
      goes_whole (with_new list named) (n + 1) end (b.once once) (b.stays 0 root_number begins) (closed_more list n o named is lookups closed) on

  once_root : IsOnce (root_number ∷ [])
  once_root zero zero o a b = refl
  once_root zero (suc j) o a b = absurd cc
  once_root (suc i) j o a b = absurd cc

  whole : (list : List ℕ) → GoesThrough z m (root_number ∷ []) 0 (Wholly list) → IsWhole list
  whole list on = goes_whole (root_number ∷ []) 0 (Wholly list) once_root refl (λ i o named lt. absurd (omega (arith, lt))) on

module _ (z : Sizes) (size : IsPageSize z.page_bytes) (m : NewestMap) (single : IsSingle m) (objects : Objects) (shown : Shows z m objects)
    (list : List ℕ) (through : GoesThrough z m (root_number ∷ []) 0 (Wholly list)) where
  w : IsWhole z size m single list
  w = whole z size m single list through

  pub once : IsOnce list
  once = w.once

  root_there : Each (IsThere z size m single objects shown) (root_number ∷ [])
  root_there zero o is = let same : root_number ≡ o = cc in let r = shown.tree.forest.root in (Dir r.0 r.1, ap (map.get objects) (sym same) ∙ r.2)
  root_there (suc k) o is = absurd cc

  -- what is on the list is there
  pub there : (i o : ℕ) → slice_get list i ≡ Some o → (x : Object) × (map.get objects o ≡ Some x)
  there i o is = ends_well z size m single objects shown (root_number ∷ []) 0 (Wholly list) root_there through i o is

  reached_on : (o : ℕ) → Reached objects o → IsOn list o
  reached_on o root = (0, w.begins)
  reached_on o (below {directory} {object} name up names) =
      let on = reached_on directory up in
      let r = shown.each directory (Dir names.moment names.entries) names.directory_is in
      let slot = entry_slot z m directory names.moment names.entries r name object names.object_is in
      let named : List ℕ = list_map (λ (e : Entry). e.object) r.slots in
      let leads : Finds z m directory (Leads named) = inr (r.fields, r.has, r.kind, r.slots, record { size = r.size; each = r.each; once = r.once }, refl) in
      w.closed on.0 directory named (slice_get_within list on.0 directory on.1) on.1 leads slot.0 object
      (mapped_at (λ (e : Entry). e.object) r.slots slot.0 slot.1 slot.2 ∙ ap Some slot.4)

  -- and what is there is on the list
  pub listed : (o : ℕ) (x : Object) → map.get objects o ≡ Some x → IsOn list o
  listed o x is = reached_on o (shown.tree.all_reached o x is)
