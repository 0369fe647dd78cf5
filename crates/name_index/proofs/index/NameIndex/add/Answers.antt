use Rattle.std.proofs.Common.{sym, arith}
use Rattle.name_index.proofs.Naming.{adds_result, same_result}
use Rattle.name_index.proofs.index.NameIndex.add.Goals as goal

pub returns-in-Some-clause-ok : goal.returns-in-Some-clause-ok
returns-in-Some-clause-ok c =
    let new = c.insert.new.self in
    adds_result c.args.self.now _ c.args.directory c.args.hash c.args.slot (omega (arith, c.ranges.slot)) c.in-Some.numbers.now new (sym c.in-Some.ensures.value) (c.get_mut.follows.holds new) c.insert.result (rw (← c.pack.ensures) c.insert.ensures.ok)

pub returns-in-Some-clause-err : goal.returns-in-Some-clause-err
returns-in-Some-clause-err c =
    let new = c.insert.new.self in
    same_result c.args.self.now _ c.args.directory c.args.hash c.args.slot (omega (arith, c.ranges.slot)) c.in-Some.numbers.now new (sym c.in-Some.ensures.value) (c.get_mut.follows.holds new) c.insert.result c.insert.ensures.err

pub add_first-requires : goal.add_first-requires
add_first-requires c = rw c.get_mut.follows.holds-at-none (sym c.in-None.ensures.value)

pub returns-in-None-clause-ok : goal.returns-in-None-clause-ok
returns-in-None-clause-ok c = rw c.get_mut.follows.holds-at-none at c.add_first.ensures.ok

pub returns-in-None-clause-err : goal.returns-in-None-clause-err
returns-in-None-clause-err c = rw c.get_mut.follows.holds-at-none at c.add_first.ensures.err
