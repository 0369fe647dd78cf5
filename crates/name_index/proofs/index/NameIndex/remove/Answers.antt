use Rattle.std.proofs.Common.{sym, arith}
use Rattle.name_index.proofs.Naming.{written, drops_name, drops_absent}
use Rattle.name_index.proofs.index.NameIndex.remove.Goals as goal

pub returns-in-Some : goal.returns-in-Some
returns-in-Some c =
    let new = c.remove.new.self in
    let old = c.in-Some.numbers.now in
    let found = sym c.in-Some.ensures.value in
    drops_name _ _ c.args.directory old new found (written c.args.directory c.args.self.now.directories (c.get_mut.follows.lender new) old new found (c.get_mut.follows.holds new)) c.args.hash c.args.slot (omega (arith, c.ranges.slot)) (rw (← c.pack.ensures) c.remove.ensures)

pub returns-in-None : goal.returns-in-None
returns-in-None c = rw c.get_mut.follows.holds-at-none (drops_absent c.args.self.now c.args.directory c.args.hash c.args.slot (sym c.in-None.ensures.value))
