use Rattle.std.proofs.Common.{◌≡◌, ◌∙◌, length, rules}
use Rattle.directories.proofs.SlotPages.{slot_here, slot_elsewhere, slot_past}
use Rattle.directories.proofs.page.write_slot.Goals as goal

pub returns-clause-here : goal.returns-clause-here
returns-clause-here c =
    let size : length c.encode_slot.new.bytes ≡ 272 = search rules in
    slot_here c.args.place c.args.page.now c.encode_slot.new.bytes c.requires.room size ∙ c.encode_slot.ensures

pub returns-clause-others : goal.returns-clause-others
returns-clause-others c = λ k apart within.
    let size : length c.encode_slot.new.bytes ≡ 272 = search rules in
    slot_elsewhere c.args.place c.args.page.now c.encode_slot.new.bytes c.requires.room size k apart

pub returns-clause-past : goal.returns-clause-past
returns-clause-past c =
    let size : length c.encode_slot.new.bytes ≡ 272 = search rules in
    slot_past c.args.place c.args.page.now c.encode_slot.new.bytes c.requires.room size
