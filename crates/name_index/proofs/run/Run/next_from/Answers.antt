use Rattle.std.proofs.Common.{arith}
use Rattle.name_index.proofs.Searching.{gap, found, next_gap, next_end, next_found}
use Rattle.name_index.proofs.run.Run.next_from.Goals as goal

pub returns-in-Ok : goal.returns-in-Ok
returns-in-Ok c =
    let run = c.args.self.now in
    let at = found run.numbers.items run.rises c.args.from c.in-Ok.at (rw (← c.deref.ensures.value) c.in-Ok.ensures.position) in
    next_found run.numbers.items run.rises c.args.from c.in-Ok.at at c.index.result.now c.index.ensures

pub returns-then-at-len : goal.returns-then-at-len
returns-then-at-len c =
    let run = c.args.self.now in
    let at = gap run.numbers.items run.rises c.args.from c.in-Err.at (rw (← c.deref.ensures.value) c.in-Err.ensures.position) in
    next_gap run.numbers.items run.rises c.args.from c.in-Err.at at c.index-then-at-len.result.now c.index-then-at-len.ensures (omega (arith, c.if-at-len.true))

pub returns-else-at-len : goal.returns-else-at-len
returns-else-at-len c =
    let run = c.args.self.now in
    let at = gap run.numbers.items run.rises c.args.from c.in-Err.at (rw (← c.deref.ensures.value) c.in-Err.ensures.position) in
    next_end run.numbers.items run.rises c.args.from c.in-Err.at at (omega (arith, c.if-at-len.false))
