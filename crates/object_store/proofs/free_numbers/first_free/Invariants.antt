use Rattle.object_store.specs.Taken.{AllTaken, taken_in}
use Rattle.object_store.proofs.free_numbers.first_free.Given as goal

abbrev pub invariant-loop-number : goal.invariant-loop-number
invariant-loop-number l = AllTaken (taken_in l.facts) l.from → AllTaken (taken_in l.facts) l.number
