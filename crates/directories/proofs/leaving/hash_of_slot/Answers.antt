use Rattle.std.proofs.Common.{◌≡◌, ◌∙◌, ap, sym}
use Rattle.name_index.specs.Hashes.{fnv1a}
use Rattle.page_tags.specs.SlotEntry.{entry_of}
use Rattle.page_tags.specs.Slots.{Entry}
use Rattle.page_tags.specs.laws.Slot.{same_slot}
use Rattle.directories.proofs.leaving.hash_of_slot.Goals as goal

pub returns-clause-hash : goal.returns-clause-hash
returns-clause-hash c = λ e tree bytes.
    let decoded = c.in_ok-slot.ensures.found in
    let same : e ≡ entry_of c.in_ok-slot.slot = same_slot e (entry_of c.in_ok-slot.slot) tree.slot decoded.0.slot (sym bytes ∙ decoded.1) in
    ap (λ (x : Entry). fnv1a x.name) same ∙ sym c.name_hash.ensures
