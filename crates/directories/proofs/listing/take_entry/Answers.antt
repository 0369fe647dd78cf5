use Rattle.std.proofs.Common.{◌≡◌, ◌∙◌, None, Some, sym, ap, rules}
use Rattle.std.specs.FinMap as map
use Rattle.page_tags.specs.SlotEntry.{entry_of}
use Rattle.page_tags.specs.Slots.{Entry}
use Rattle.page_tags.specs.laws.Slot.{same_slot}
use Rattle.directories.proofs.listing.take_entry.Goals as goal

pub returns-in-Some-2-clause-fault : goal.returns-in-Some-2-clause-fault
returns-in-Some-2-clause-fault c = λ new entry valid is absent.
    let found = rw c.in-Some.is at c.decode_tree_slot.ensures.found in
    let same : entry ≡ entry_of c.in-Some.slot = same_slot entry (entry_of c.in-Some.slot) valid.slot found.0.slot (sym is ∙ found.1) in
    let name : c.in_ok-to_vec.field-0.items ≡ c.in-Some.slot.name.now = search rules in
    let none : map.get c.args.entries.now c.in_ok-to_vec.field-0.items ≡ None = ap (map.get c.args.entries.now) (name ∙ ap (λ (e : Entry). e.name) (sym same)) ∙ absent in
    let two : None ≡ Some c.in-Some-2.field-0 = sym (c.in_ok-insert.ensures.led ∙ none) ∙ c.in-Some-2.is in
    absurd cc
