-- The hashes of the slots that were gone through.
use Rattle.std.specs.Prelude.{◌≡◌, ◌≤◌, ◌+◌, ℕ, List, Some, slice_get}
use Rattle.std.specs.BTreeMap.{get}
use Rattle.std.specs.Ordering.{nat_cmp}
use Rattle.std.proofs.Common.{sym, ◌∙◌, ap, subst, inl, inr, arith}
use Rattle.std.proofs.lemmas.Bool.{cases_eq, ne_eqb}
use Rattle.page_tags.specs.Slots.{Entry}
use Rattle.flash_tree.specs.laws.OneTree.{one_slot}
use Rattle.name_index.specs.Hashes.{fnv1a}
use Rattle.name_index.specs.Covering.{HasHashes}
use Rattle.name_index.specs.Names.{Holds, AddsName}
use Rattle.name_index.specs.declared.index.NameIndex.{NameIndex}
use Rattle.pages.specs.Maps.{PageMap, has}
use Rattle.volume_terms.specs.Sizes.{Sizes}
use Rattle.volume_terms.specs.laws.List.{mapped_at, slice_get_there}
use Rattle.tree_walk.specs.Hashes.{Keeps, HoldsEach, CoversHead, CoversHeads}
use Rattle.tree_walk.specs.SlotLists.{HasSlots}
use Rattle.tree_walk.specs.Walks.{Visits}
use Rattle.tree_walk.specs.declared.directory.Slots.{Slots}
use Rattle.tree_walk.specs.declared.object.Visited.{Visited}
use Rattle.tree_walk.specs.declared.walking.WalkState.{WalkState}
use Rattle.tree_walk.proofs.Seeing.{single}

-- one hash more
pub holds_next : (old new : NameIndex) (d n h : ℕ) (hashes : List ℕ) → slice_get hashes n ≡ Some h → AddsName d h n old new → HoldsEach old d n hashes → HoldsEach new d (n + 1) hashes
holds_next old new d n h hashes at adds each = λ s k lt is. elim (cases_eq s n) [
  | inl same ↦
      let two : Some h ≡ Some k = sym at ∙ ap (slice_get hashes) (sym same) ∙ is in
      let one : h ≡ k = cc in
      subst (λ i. Holds new d k i) (sym same) (subst (λ x. Holds new d x n) one adds.there)
  | inr ne ↦ adds.stays d k s (each s k (omega (arith, lt, ne)) is)
]

-- where the hashes of the slots are held, the directory's are
pub has_hashes : (z : Sizes) (m : PageMap) (d n : ℕ) (seen : Slots) (index : NameIndex) → z.page_bytes ≤ 4096 → HasSlots z m d n seen → HoldsEach index d n seen.hashes.items → HasHashes index z m d n
has_hashes z m d n seen index within_limit h each = λ s e lt slot.
    let at = slice_get_there h.slots s (omega (arith, lt, h.are.size)) in
    let one : at.0 ≡ e = one_slot z within_limit (has m) (single m) d s at.0 e (h.are.each s at.0 at.1) slot in
    let hash : slice_get seen.hashes.items s ≡ Some (fnv1a at.0.name) = ap (λ (hs : List ℕ). slice_get hs s) h.hashes ∙ mapped_at (λ (x : Entry). fnv1a x.name) h.slots s at.0 at.1 in
    subst (λ (x : Entry). Holds index d (fnv1a x.name) s) one (each s (fnv1a at.0.name) lt hash)

-- what the index holds it holds on
pub has_still : (z : Sizes) (m : PageMap) (d n : ℕ) (old new : NameIndex) → Keeps old new → HasHashes old z m d n → HasHashes new z m d n
has_still z m d n old new keeps are = λ s e lt slot. keeps d (fnv1a e.name) s (are s e lt slot)

-- one directory more
pub covers_visited : (z : Sizes) (m : PageMap) (o : ℕ) (visited : Visited) (old new : WalkState) (before after : NameIndex) → Keeps before after → CoversHead after z m o visited.head
    → CoversHeads before z m old.heads → Visits o visited old new → CoversHeads after z m new.heads
covers_visited z m o visited old new before after keeps here covered t = λ p head there kind. elim (cases_eq p o) [
  | inl same ↦
      let two : Some visited.head ≡ Some head = sym t.here ∙ ap (get nat_cmp new.heads) (sym same) ∙ there in
      let one : visited.head ≡ head = cc in
      subst (λ k. HasHashes after z m k head.length) (sym same) (subst (CoversHead after z m o) one here kind)
  | inr ne ↦ has_still z m p head.length before after keeps (covered p head (sym (t.others p (ne_eqb p o ne)) ∙ there) kind)
]
