use Rattle.std.proofs.Common.{sym}
use Rattle.name_index.proofs.Running.{tiled_copy, same_copy, unchanged, long_enough, tiled_cut, same_cut}
use Rattle.name_index.proofs.set.NumberSet.divide.Goals as goal

pub invariant_of-self : goal.invariant_of-self
invariant_of-self c =
    let m = c.args.self.now.runs in
    record { tiled = tiled_copy m c.insert.new.self c.args.self.now.tiled (unchanged m c.insert.new.self c.in_err-insert.ensures.err) }

pub returns-in_err-insert-clause-same : goal.returns-in_err-insert-clause-same
returns-in_err-insert-clause-same c =
    let m = c.args.self.now.runs in
    same_copy m c.insert.new.self (unchanged m c.insert.new.self c.in_err-insert.ensures.err)

pub cut_upper-requires : goal.cut_upper-requires
cut_upper-requires c =
    let m = c.args.self.now.runs in
    let upper = rw c.in-Some.is at c.in_ok-upper.ensures in
    let run = c.in-Some-get_mut.run'.now in
    long_enough m c.insert.new.self c.insert.new.self c.args.self.now.tiled c.args.at c.first.result c.in-Some.upper upper c.first.ensures c.in_ok-insert.ensures.updates run run (sym c.in-Some-get_mut.ensures.value)

pub invariant_of-self-in-Some-get_mut : goal.invariant_of-self-in-Some-get_mut
invariant_of-self-in-Some-get_mut c =
    let m = c.args.self.now.runs in
    let upper = rw c.in-Some.is at c.in_ok-upper.ensures in
    let low = c.cut_upper.new.self in
    record {
      tiled = tiled_cut m c.insert.new.self (c.get_mut.follows.lender low) c.args.self.now.tiled c.args.at c.first.result c.in-Some.upper upper c.first.ensures c.in_ok-insert.ensures.updates
          c.in-Some-get_mut.run'.now low (sym c.in-Some-get_mut.ensures.value) (c.get_mut.follows.holds low) c.cut_upper.ensures;
    }

pub returns-in-Some-get_mut-clause-same : goal.returns-in-Some-get_mut-clause-same
returns-in-Some-get_mut-clause-same c =
    let m = c.args.self.now.runs in
    let upper = rw c.in-Some.is at c.in_ok-upper.ensures in
    let low = c.cut_upper.new.self in
    same_cut m c.insert.new.self (c.get_mut.follows.lender low) c.args.self.now.tiled c.args.at c.first.result c.in-Some.upper upper c.first.ensures c.in_ok-insert.ensures.updates
    c.in-Some-get_mut.run'.now low (sym c.in-Some-get_mut.ensures.value) (c.get_mut.follows.holds low) c.cut_upper.ensures
