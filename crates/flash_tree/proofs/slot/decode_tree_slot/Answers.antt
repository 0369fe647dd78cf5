use Rattle.page_tags.specs.SlotEntry.{entry_of}
use Rattle.flash_tree.specs.laws.TreeSlot.{no_tree_slot}
use Rattle.flash_tree.proofs.slot.decode_tree_slot.Goals as goal

pub returns-then-slot-clause-none : goal.returns-then-slot-clause-none
returns-then-slot-clause-none c = no_tree_slot c.args.bytes.now (entry_of c.in-Some.slot) c.in-Some.ensures.found.0 c.in-Some.ensures.found.1 c.if-slot.true
