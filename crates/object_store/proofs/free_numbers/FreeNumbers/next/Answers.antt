use Rattle.std.proofs.Common.{sym}
use Rattle.std.specs.BinaryHeap.{heap_items}
use Rattle.object_store.proofs.Free.{first_item, least_given}
use Rattle.object_store.proofs.free_numbers.FreeNumbers.next.Goals as goal

pub returns-in-Some-clause-least : goal.returns-in-Some-clause-least
returns-in-Some-clause-least c = λ taken knows.
    let f = first_item (heap_items c.args.self.now.freed) c.in-Some.number.now (sym c.in-Some.ensures.item.0) c.in-Some.ensures.lookup in
    least_given c.args.self.now taken c.in-Some.number.now f.0 knows f.1 (c.in-Some.ensures.greatest c.args.self.now.ordered)
