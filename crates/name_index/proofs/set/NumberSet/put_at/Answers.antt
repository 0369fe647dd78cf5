use Rattle.std.proofs.Common.{sym}
use Rattle.name_index.proofs.Running.{tiled_insert, adds_insert, same_insert}
use Rattle.name_index.proofs.set.NumberSet.put_at.Goals as goal

pub invariant_of-self : goal.invariant_of-self
invariant_of-self c =
    let new = c.insert.new.self in
    record { tiled = tiled_insert c.args.self.now.runs (c.get_mut.follows.lender new) c.args.self.now.tiled c.args.number c.args.at c.requires c.in-Some.run'.now new (sym c.in-Some.ensures.value) (c.get_mut.follows.holds new) c.insert.result c.insert.ensures.ok c.insert.ensures.err }

pub returns-in-Some-clause-ok : goal.returns-in-Some-clause-ok
returns-in-Some-clause-ok c =
    let new = c.insert.new.self in
    adds_insert c.args.self.now.runs (c.get_mut.follows.lender new) c.args.self.now.tiled c.args.number c.args.at c.requires c.in-Some.run'.now new (sym c.in-Some.ensures.value) (c.get_mut.follows.holds new) c.insert.result c.insert.ensures.ok

pub returns-in-Some-clause-err : goal.returns-in-Some-clause-err
returns-in-Some-clause-err c =
    let new = c.insert.new.self in
    same_insert c.args.self.now.runs (c.get_mut.follows.lender new) c.args.self.now.tiled c.args.number c.args.at c.requires c.in-Some.run'.now new (sym c.in-Some.ensures.value) (c.get_mut.follows.holds new) c.insert.result c.insert.ensures.err
