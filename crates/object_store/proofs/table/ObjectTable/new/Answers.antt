use Rattle.object_store.proofs.table.ObjectTable.new.Goals as goal

pub invariant_of-result : goal.invariant_of-result
invariant_of-result c = record { free = c.new-numbers.ensures }
