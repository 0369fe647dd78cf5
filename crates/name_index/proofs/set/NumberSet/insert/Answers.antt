use Rattle.name_index.proofs.Running.{adds_held, adds_after, same_after}
use Rattle.name_index.proofs.set.NumberSet.insert.Goals as goal

pub returns-in-Held-clause-ok : goal.returns-in-Held-clause-ok
returns-in-Held-clause-ok c =
    let held = rw c.in-Held.is at c.in-Some.ensures.1 in
    adds_held c.args.self.now.runs c.args.number (c.in-Some.at, held.0, held.1, held.2)

pub put_at-requires : goal.put_at-requires
put_at-requires c = c.in-Some.ensures.0

pub put-requires : goal.put-requires
put-requires c = (c.in-Some.at, c.in-Some.ensures.0.1, c.divide.ensures.here c.in-Some.ensures.0.0)

pub returns-in_ok-divide-in-Full-clause-ok : goal.returns-in_ok-divide-in-Full-clause-ok
returns-in_ok-divide-in-Full-clause-ok c = adds_after c.args.number c.args.self.now.runs c.divide.new.self.runs c.put.new.self.runs c.divide.ensures.same c.put.result c.put.ensures.ok

pub returns-in_ok-divide-in-Full-clause-err : goal.returns-in_ok-divide-in-Full-clause-err
returns-in_ok-divide-in-Full-clause-err c = same_after c.args.number c.args.self.now.runs c.divide.new.self.runs c.put.new.self.runs c.divide.ensures.same c.put.result c.put.ensures.err
