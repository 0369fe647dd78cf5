use Rattle.page_tags.specs.laws.Slot.{same_slot}
use Rattle.page_tags.proofs.law.slots_differ.Goals as goal

pub returns : goal.returns
returns c = same_slot
