use Rattle.std.proofs.Common.{◌∙◌}
use Rattle.page_tags.specs.SlotEntry.{entry_of}
use Rattle.page_tags.proofs.SlotBytes.{slot_written}
use Rattle.page_tags.proofs.slot.encode_slot.Goals as goal

pub returns : goal.returns
returns c =
    slot_written (entry_of c.args.slot.now) c.args.bytes.now c.copy_from_slice.new.self c.copy_from_slice-2.new.self c.fill.new.self
    c.requires.room c.requires.valid.name.within_limit (c.copy_from_slice.ensures.after ∙ c.head_of.ensures) c.copy_from_slice-2.ensures.after (c.fill.ensures.after (λ y e. e))
