use Rattle.std.proofs.Common.{sym, arith}
use Rattle.name_index.proofs.Naming.{no_slot, slot_found}
use Rattle.name_index.proofs.index.NameIndex.next_slot.Goals as goal

pub returns-in_err-found : goal.returns-in_err-found
returns-in_err-found c =
    let none = rw c.pack.ensures at c.in_err-found.ensures in
    rw c.from_residual-in_err-found.ensures (no_slot c.args.self.now c.args.directory c.args.hash c.args.from (omega (arith, c.ranges.from)) c.in_ok-numbers.numbers.now (sym c.in_ok-numbers.ensures.value) none)

pub returns : goal.returns
returns c = slot_found c.args.self.now c.args.directory c.args.hash c.args.from (omega (arith, c.ranges.from)) c.in_ok-numbers.numbers.now (sym c.in_ok-numbers.ensures.value) c.in_ok-found.found (rw (← c.pack.ensures) c.in_ok-found.ensures) c.slot_under.result c.slot_under.ensures
