-- How many entries slots make.
use Rattle.std.specs.Prelude.{◌≡◌, ℕ, zero, suc, ◌+◌, List, [], ◌∷◌, length, slice_get, false, is_some, Option, Some, None}
use Rattle.std.specs.Ordering.{nat_cmp}
use Rattle.std.specs.Cmp.Lexicographic.{slice_cmp, nat_list_cmp_total}
use Rattle.std.specs.FinMap as map
use Rattle.std.proofs.Common.{refl, sym, ◌∙◌, ap, arith}
use Rattle.std.proofs.lemmas.Bool.{cond-false}
use Rattle.page_tags.specs.Slots.{Entry}
use Rattle.flash_tree.specs.Tree.{slot_pairs}
use Rattle.flash_tree.specs.laws.Slot.{slot_of_pair}
use Rattle.flash_tree.specs.laws.Pairs.{at_find}

-- no name is there twice
abbrev pub AreOnce : List Entry → Type 0
AreOnce slots = (i j : ℕ) (a b : Entry) → slice_get slots i ≡ Some a → slice_get slots j ≡ Some b → a.name ≡ b.name → i ≡ j

-- the name of the first slot is in none of the others
first_absent : (s : Entry) (slots : List Entry) → AreOnce (s ∷ slots) → map.contains_key (map.from_entries {R = slice_cmp nat_cmp} (slot_pairs slots)) s.name ≡ false
first_absent s slots once = go (map.get (map.from_entries {R = slice_cmp nat_cmp} (slot_pairs slots)) s.name) refl where
  go : (found : Option ℕ) → map.get (map.from_entries {R = slice_cmp nat_cmp} (slot_pairs slots)) s.name ≡ found → map.contains_key (map.from_entries {R = slice_cmp nat_cmp} (slot_pairs slots)) s.name ≡ false
  go None is = ap is_some is
  go (Some object) is =
      let at = at_find nat_list_cmp_total (map.slice_cmp-IsAntisymmetric map.nat_cmp-IsAntisymmetric) (slot_pairs slots) s.name object
      (sym (map.get-from_entries nat_list_cmp_total (slot_pairs slots) s.name) ∙ is) in
      let slot = slot_of_pair slots at.0 s.name object at.1 in
      let one : suc at.0 ≡ zero = once (suc at.0) zero slot.0 s slot.1 refl slot.2 in
      absurd (omega (arith, one))

-- slots with names of their own make as many entries
pub entries_len : (slots : List Entry) → AreOnce slots → map.len (map.from_entries {R = slice_cmp nat_cmp} (slot_pairs slots)) ≡ length slots
entries_len [] once = map.len-empty (slice_cmp nat_cmp) ℕ
entries_len (s ∷ slots) once =
    let rest = entries_len slots (λ i j a b at bt same. let one : suc i ≡ suc j = once (suc i) (suc j) a b at bt same in omega (arith, one)) in
    map.len-insert nat_list_cmp_total (map.from_entries (slot_pairs slots)) s.name s.object ∙ cond-false _ _ _ (first_absent s slots once) ∙ ap (λ n. n + 1) rest ∙ omega arith
