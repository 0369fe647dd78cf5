use Rattle.std.proofs.Common.{◌≡◌, ◌∙◌, length, refl, arith}
use Rattle.std.specs.BinaryHeap.{heap_items}
use Rattle.std.proofs.lemmas.List.{nil_from_length}
use Rattle.object_store.specs.Taken.{taken_in}
use Rattle.object_store.proofs.Free.{took_knows, mark_below, mark_knows}
use Rattle.object_store.proofs.free_numbers.FreeNumbers.take.Goals as goal

pub returns-in-Some : goal.returns-in-Some
returns-in-Some c = λ before knows takes.
    took_knows c.args.self.now _ before (taken_in c.args.facts.now) c.in-Some.field-0 knows c.in-Some.ensures.top c.in-Some.ensures.permutation refl takes

pub returns-in-None : goal.returns-in-None
returns-in-None c = λ before knows takes.
    let zero' : length (heap_items c.args.self.now.freed) ≡ 0 = omega (arith, c.args.self.now.freed.data.ok.0, c.in-None.ensures.none) in
    let none = nil_from_length (heap_items c.args.self.now.freed) zero' in
    let below = mark_below c.args.self.now before (taken_in c.args.facts.now) knows none takes in
    mark_knows _ (taken_in c.args.facts.now) (c.in-None.ensures.unchanged.0 ∙ none) (omega (arith, c.first_free-low.ensures.low below, knows.low)) (c.first_free-low.ensures.free below) (c.first_free-low.ensures.below below)
