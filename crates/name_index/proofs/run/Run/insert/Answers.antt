use Rattle.std.proofs.Common.{length, ◌<◌}
use Rattle.name_index.specs.Lists.{Rises}
use Rattle.name_index.proofs.Searching.{gap}
use Rattle.name_index.proofs.Editing.{rises_insert, adds_insert, filled_insert, either}
use Rattle.name_index.proofs.run.Run.insert.Goals as goal

pub invariant_of-self-in-Err : goal.invariant_of-self-in-Err
invariant_of-self-in-Err c =
    let run = c.args.self.now in
    let xs = run.numbers.items in
    let at = gap xs run.rises c.args.number c.in-Err.at (rw (← c.deref.ensures.value) c.in-Err.ensures.position) in
    record {
      rises = rw (c.insert.ensures.items, c.reserve_one.ensures) (either Rises _ _ _ (rises_insert xs c.args.number c.in-Err.at at run.rises) run.rises);
      filled = rw (c.insert.ensures.items, c.reserve_one.ensures) (either (λ ys. 0 < length ys) _ _ _ (filled_insert xs c.args.number c.in-Err.at at) run.filled);
    }

pub returns-in_ok-insert-in-Err-clause-ok : goal.returns-in_ok-insert-in-Err-clause-ok
returns-in_ok-insert-in-Err-clause-ok c =
    let run = c.args.self.now in
    let xs = run.numbers.items in
    let at = gap xs run.rises c.args.number c.in-Err.at (rw (← c.deref.ensures.value) c.in-Err.ensures.position) in
    rw (c.in_ok-insert-in-Err.ensures.items, c.reserve_one.ensures) (adds_insert xs c.args.number c.in-Err.at at)
