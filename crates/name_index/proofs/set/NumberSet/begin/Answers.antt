use Rattle.name_index.proofs.Running.{tiled_begin, adds_begin, unchanged, same_copy, on_err}
use Rattle.name_index.proofs.set.NumberSet.begin.Goals as goal

pub invariant_of-self : goal.invariant_of-self
invariant_of-self c =
    let m = c.args.self.now.runs in
    record { tiled = tiled_begin m c.insert.new.self c.args.self.now.tiled c.args.number c.requires c.in_ok-run.run' c.in_ok-run.ensures c.insert.result c.insert.ensures.updates c.insert.ensures.err }

pub returns-in_err-insert-clause-err : goal.returns-in_err-insert-clause-err
returns-in_err-insert-clause-err c =
    let m = c.args.self.now.runs in
    on_err c.from_residual-in_err-insert.result (same_copy m c.insert.new.self (unchanged m c.insert.new.self c.in_err-insert.ensures.err))

pub returns-clause-ok : goal.returns-clause-ok
returns-clause-ok c =
    let m = c.args.self.now.runs in
    adds_begin m c.insert.new.self c.args.self.now.tiled c.args.number c.requires c.in_ok-run.run' c.in_ok-run.ensures c.in_ok-insert.ensures.updates
