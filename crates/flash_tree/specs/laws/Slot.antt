-- The slots of a directory.
use Rattle.std.specs.Prelude.{◌≡◌, ℕ, zero, suc, List, [], ◌∷◌, Some, slice_get}
use Rattle.std.specs.Ordering.{nat_cmp}
use Rattle.std.specs.Cmp.Lexicographic.{slice_cmp, nat_list_cmp_total}
use Rattle.std.specs.FinMap as map
use Rattle.std.proofs.Common.{refl, sym, ◌∙◌, ap}
use Rattle.std.proofs.lemmas.Option.{some_pair_parts}
use Rattle.page_tags.specs.Slots.{Entry}
use Rattle.volume_terms.specs.Sizes.{Sizes}
use Rattle.posix_profile.specs.State.{Name, Entries}
use Rattle.flash_tree.specs.Tree.{NewestMap, ReadsDir, slot_pairs}
use Rattle.flash_tree.specs.laws.Pairs.{at_find}

-- a pair of slots is one of a slot
pub slot_of_pair : (slots : List Entry) (i : ℕ) (name : Name) (object : ℕ) → slice_get (slot_pairs slots) i ≡ Some (name, object) → (entry : Entry) × (slice_get slots i ≡ Some entry) × (entry.name ≡ name) × (entry.object ≡ object)
slot_of_pair [] i name object is = absurd cc
slot_of_pair (entry ∷ slots) zero name object is = let parts = some_pair_parts entry.name name entry.object object is in (entry, refl, parts.0, parts.1)
slot_of_pair (entry ∷ slots) (suc i) name object is = slot_of_pair slots i name object is

-- an entry of a directory that is read is in a slot
pub entry_slot : (z : Sizes) (m : NewestMap) (o moment : ℕ) (entries : Entries) (r : ReadsDir z m o moment entries) (name : Name) (object : ℕ) → map.get entries name ≡ Some object
    → (i : ℕ) × (entry : Entry) × (slice_get r.slots i ≡ Some entry) × (entry.name ≡ name) × (entry.object ≡ object)
entry_slot z m o moment entries r name object is =
    let there : map.find (slice_cmp nat_cmp) name (slot_pairs r.slots) ≡ Some object =
    sym (map.get-from_entries nat_list_cmp_total (slot_pairs r.slots) name) ∙ ap (λ es. map.get es name) (sym r.entries_are) ∙ is in
    let at = at_find nat_list_cmp_total (map.slice_cmp-IsAntisymmetric map.nat_cmp-IsAntisymmetric) (slot_pairs r.slots) name object there in
    let slot = slot_of_pair r.slots at.0 name object at.1 in
    (at.0, slot.0, slot.1, slot.2, slot.3)
