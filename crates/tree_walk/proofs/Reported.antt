-- Of each object that is shown the tree reports the header, and so what all of them cost.
use Rattle.std.specs.Prelude.{◌≡◌, ◌<◌, ℕ, List, length, slice_get, sum_by, Option, Some}
use Rattle.std.specs.Option.{option_map_or}
use Rattle.std.proofs.Common.{sym, ◌∙◌, ap, inl, inr, arith}
use Rattle.std.specs.FinMap as map
use Rattle.volume_terms.specs.Sizes.{Sizes, IsSizes, page_slots}
use Rattle.posix_profile.specs.State.{Object, Objects}
use Rattle.posix_profile.specs.Charge.{cost, charge}
use Rattle.flash_tree.specs.Tree.{IsSingle, IsPageSize, Shows}
use Rattle.pages.specs.Maps.{PageMap, has}
use Rattle.tree_walk.specs.Trees.{IsTreeThrough, head_at, names_of, objects_listed, tree_pages}
use Rattle.tree_walk.specs.Visits.{head_pages, reported_pages}
use Rattle.tree_walk.specs.Walks.{IsOn, IsOnce}
use Rattle.tree_walk.specs.declared.head.Head.{Head}
use Rattle.tree_walk.specs.declared.tree.Tree.{Tree}
use Rattle.tree_walk.specs.Looked.{looked, looked_pages}
use Rattle.tree_walk.specs.Units.{head_cost, reported_cost}
use Rattle.tree_walk.proofs.HeadLaws.{IsHeaderOfObject, said, costs_as, looks_as}
use Rattle.tree_walk.proofs.Slots.{NamedSlot, AreSlotsOf, all_slots}
use Rattle.tree_walk.proofs.Summed.{summed}
use Rattle.tree_walk.proofs.Whole as list

pub single : (m : PageMap) → IsSingle (has m)
single m o n xs ys x y = let two : Some xs ≡ Some ys = sym x ∙ y in cc

module _ (z : Sizes) (size : IsPageSize z.page_bytes) (m : PageMap) (tree : Tree) (objects : Objects) (of : IsTreeThrough z (has m) tree) (shown : Shows z (has m) objects) where
  pub once : IsOnce (objects_listed tree)
  once = list.once z size (has m) (single m) objects shown (objects_listed tree) of.through

  pub there : (i o : ℕ) → slice_get (objects_listed tree) i ≡ Some o → (x : Object) × (map.get objects o ≡ Some x)
  there = list.there z size (has m) (single m) objects shown (objects_listed tree) of.through

  pub listed : (o : ℕ) (x : Object) → map.get objects o ≡ Some x → IsOn (objects_listed tree) o
  listed = list.listed z size (has m) (single m) objects shown (objects_listed tree) of.through

  -- the header of an object
  pub head_of : (o : ℕ) (x : Object) → map.get objects o ≡ Some x → (head : Head) × (head_at tree o ≡ Some head) × IsHeaderOfObject head x
  head_of o x is =
      let on = listed o x is in
      let h = of.heads.each on.0 o on.1 in
      (h.0, h.1, said z size (has m) (single m) o h.0 x (of.heads.says o h.0 h.1) (shown.each o x is))

  pub charged : sum_by (reported_cost z tree) (objects_listed tree) ≡ charge z objects
  charged = summed (cost z) (reported_cost z tree) (objects_listed tree) objects once (λ i o at.
      let x = there i o at in
      let h = head_of o x.0 x.1 in
      (x.0, x.1, ap (λ (head : Option Head). option_map_or (head_cost z) head 0) h.1 ∙ costs_as z h.0 x.0 h.2)) listed

  pub looked_up : 0 < page_slots z → tree_pages z tree ≡ looked_pages z objects
  looked_up some = summed (looked z) (reported_pages z tree.heads) (objects_listed tree) objects once (λ i o at.
      let x = there i o at in
      let h = head_of o x.0 x.1 in
      (x.0, x.1, ap (λ (head : Option Head). option_map_or (head_pages z) head 0) h.1 ∙ looks_as z h.0 x.0 some h.2)) listed

-- the slots of a tree's names
pub slots_of : (z : Sizes) (size : IsPageSize z.page_bytes) (m : PageMap) (tree : Tree) (objects : Objects) → IsTreeThrough z (has m) tree → Shows z (has m) objects
    → (all : List NamedSlot) × AreSlotsOf objects (objects_listed tree) (length (objects_listed tree)) all (names_of tree)
slots_of z size m tree objects of shown = all_slots z size (has m) (single m) objects shown (objects_listed tree) (once z size m tree objects of shown) (there z size m tree objects of shown)
    (length (objects_listed tree)) (names_of tree) of.names

-- pages of a volume's sizes
pub page_size : (z : Sizes) → IsSizes z → IsPageSize z.page_bytes
page_size z sizes = record {
  least = elim sizes.page_bytes [ inl a ↦ omega (arith, a) | inr (inl b) ↦ omega (arith, b) | inr (inr (inl c)) ↦ omega (arith, c) | inr (inr (inr d)) ↦ omega (arith, d) ];
  most = elim sizes.page_bytes [ inl a ↦ omega (arith, a) | inr (inl b) ↦ omega (arith, b) | inr (inr (inl c)) ↦ omega (arith, c) | inr (inr (inr d)) ↦ omega (arith, d) ];
}

-- which have room for a slot
pub some_slots : (z : Sizes) → IsSizes z → 0 < page_slots z
some_slots z sizes = elim sizes.page_bytes [ inl a ↦ omega (arith, a) | inr (inl b) ↦ omega (arith, b) | inr (inr (inl c)) ↦ omega (arith, c) | inr (inr (inr d)) ↦ omega (arith, d) ]
