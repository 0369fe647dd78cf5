use Rattle.std.proofs.Common.{arith}
use Rattle.name_index.proofs.Searching.{gap, found}
use Rattle.name_index.proofs.Editing.{drops_none}
use Rattle.name_index.proofs.run.Run.standing.Goals as goal

pub returns-in-Ok : goal.returns-in-Ok
returns-in-Ok c =
    let run = c.args.self.now in
    let xs = run.numbers.items in
    let at = found xs run.rises c.args.number c.in-Ok.field-0 (rw (← c.deref.ensures.value) c.in-Ok.ensures.position) in
    (c.in-Ok.field-0, at.within, at.is)

pub returns-then-len-lt-MOST_NUMBERS : goal.returns-then-len-lt-MOST_NUMBERS
returns-then-len-lt-MOST_NUMBERS c =
    let run = c.args.self.now in
    let xs = run.numbers.items in
    let at = gap xs run.rises c.args.number c.in-Err.field-0 (rw (← c.deref.ensures.value) c.in-Err.ensures.position) in
    ((drops_none xs c.args.number c.in-Err.field-0 at).gone, omega (arith, c.len.ensures, c.if-len-lt-MOST_NUMBERS.true))

pub returns-else-len-lt-MOST_NUMBERS : goal.returns-else-len-lt-MOST_NUMBERS
returns-else-len-lt-MOST_NUMBERS c =
    let run = c.args.self.now in
    let xs = run.numbers.items in
    let at = gap xs run.rises c.args.number c.in-Err.field-0 (rw (← c.deref.ensures.value) c.in-Err.ensures.position) in
    ((drops_none xs c.args.number c.in-Err.field-0 at).gone, omega (arith, c.len.ensures, c.if-len-lt-MOST_NUMBERS.false))
