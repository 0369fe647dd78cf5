use Rattle.page_tags.specs.laws.Slot.{slot_or_none}
use Rattle.page_tags.proofs.law.each_slot_is_one_or_none.Goals as goal

pub returns : goal.returns
returns c = slot_or_none
