-- The slots of a tree's directories are given by their bytes.
use Rattle.std.specs.Prelude.{◌≡◌, ◌≢◌, ◌⊎◌, ℕ, List}
use Rattle.std.proofs.Common.{sym, ◌∙◌, ap, inl, inr}
use Rattle.std.proofs.lemmas.Bool.{cases_eq}
use Rattle.page_tags.specs.Slots.{Entry, IsSlot, slot_bytes}
use Rattle.page_tags.specs.laws.Slot.{same_slot, slot_or_none}
use Rattle.flash_tree.specs.Slots.{check_object, IsTreeSlot}

-- the bytes of a slot that leads to the object of checkpoints are of no slot of a tree
pub no_tree_slot : (bytes : List ℕ) (s : Entry) → IsSlot s → bytes ≡ slot_bytes s → s.object ≡ check_object → (t : Entry) → IsTreeSlot t → bytes ≢ slot_bytes t
no_tree_slot bytes s valid is object t other same = other.ordinary (ap (λ (e : Entry). e.object) (sym (same_slot s t valid other.slot (sym is ∙ same))) ∙ object)

-- any bytes are those of one slot of a tree, or of none
pub tree_slot_or_none : (bytes : List ℕ) → ((s : Entry) × IsTreeSlot s × (bytes ≡ slot_bytes s)) ⊎ ((s : Entry) → IsTreeSlot s → bytes ≢ slot_bytes s)
tree_slot_or_none bytes = elim (slot_or_none bytes) [
  | inr none ↦ inr (λ s valid. none s valid.slot)
  | inl (s, valid, is) ↦ elim (cases_eq s.object check_object) [
    | inl object ↦ inr (no_tree_slot bytes s valid is object)
    | inr ordinary ↦ inl (s, record { slot = valid; ordinary = ordinary }, is)
  ]
]
