use Rattle.std.proofs.Common.{sym}
use Rattle.name_index.proofs.Running.{written, tiled_taken, drops_taken}
use Rattle.name_index.proofs.set.NumberSet.take_out.Goals as goal

pub remove-requires : goal.remove-requires
remove-requires c one is = c.requires.more (c.in-Some.run'.now, sym c.in-Some.ensures.value, one, is)

pub invariant_of-self : goal.invariant_of-self
invariant_of-self c =
    let m = c.args.self.now.runs in
    let new = c.remove.new.self in
    let n = c.get_mut.follows.lender new in
    let found = sym c.in-Some.ensures.value in
    record { tiled = tiled_taken m c.args.self.now.tiled c.args.number c.args.at c.requires.last n c.in-Some.run'.now new found (written c.args.at m n c.in-Some.run'.now new found (c.get_mut.follows.holds new)) c.remove.ensures }

pub returns-in-Some : goal.returns-in-Some
returns-in-Some c =
    let m = c.args.self.now.runs in
    let new = c.remove.new.self in
    let n = c.get_mut.follows.lender new in
    let found = sym c.in-Some.ensures.value in
    drops_taken m c.args.self.now.tiled c.args.number c.args.at c.requires.last n c.in-Some.run'.now new found (written c.args.at m n c.in-Some.run'.now new found (c.get_mut.follows.holds new)) c.remove.ensures
