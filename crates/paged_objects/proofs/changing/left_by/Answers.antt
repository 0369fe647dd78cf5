use Rattle.paged_objects.proofs.changing.left_by.Goals as goal

pub returns-in-Remove : goal.returns-in-Remove
returns-in-Remove c = rw c.in-Remove.is c.left_slot.ensures.left

pub returns-in-Move : goal.returns-in-Move
returns-in-Move c = rw c.in-Move.is c.left_slot-in-Move.ensures.left
