use Rattle.std.proofs.Common.{sym, subst, length, ◌<◌}
use Rattle.name_index.specs.Lists.{Rises}
use Rattle.name_index.proofs.Searching.{gap, found}
use Rattle.name_index.proofs.Editing.{rises_remove, drops_remove, filled_remove, drops_none}
use Rattle.name_index.proofs.run.Run.remove.Goals as goal

pub invariant_of-self : goal.invariant_of-self
invariant_of-self c =
    let run = c.args.self.now in
    let xs = run.numbers.items in
    let at = found xs run.rises c.args.number c.in-Ok.at (rw (← c.deref.ensures.value) c.in-Ok.ensures.position) in
    record {
      rises = subst Rises (sym c.remove.ensures.items) (rises_remove xs run.rises c.args.number c.in-Ok.at at);
      filled = subst (λ ys. 0 < length ys) (sym c.remove.ensures.items) (filled_remove xs run.rises c.args.number c.in-Ok.at at c.requires);
    }

pub returns-in-Ok : goal.returns-in-Ok
returns-in-Ok c =
    let run = c.args.self.now in
    let xs = run.numbers.items in
    let at = found xs run.rises c.args.number c.in-Ok.at (rw (← c.deref.ensures.value) c.in-Ok.ensures.position) in
    rw c.remove.ensures.items (drops_remove xs run.rises c.args.number c.in-Ok.at at)

pub returns-in-Err : goal.returns-in-Err
returns-in-Err c =
    let run = c.args.self.now in
    let xs = run.numbers.items in
    drops_none xs c.args.number c.in-Err.field-0 (gap xs run.rises c.args.number c.in-Err.field-0 (rw (← c.deref.ensures.value) c.in-Err.ensures.position))
