use Rattle.std.proofs.Common.{None}
use Rattle.name_index.proofs.Running.{updated, tiled_less, drops_less, drops_nothing}
use Rattle.name_index.proofs.set.NumberSet.remove.Goals as goal

pub returns-in_default : goal.returns-in_default
returns-in_default c = drops_nothing c.args.self.now.runs c.args.self.now.tiled c.args.number c.in_default.ensures

pub invariant_of-self : goal.invariant_of-self
invariant_of-self c =
    let m = c.args.self.now.runs in
    let n = c.remove.new.self in
    record { tiled = tiled_less m c.args.self.now.tiled c.args.number c.in-Some.at c.in-Some.ensures.0 n (updated c.in-Some.at None m n c.remove.ensures.updates) (c.in-Some.ensures.1.0 c.if-is_only.true) }

pub returns-then-is_only : goal.returns-then-is_only
returns-then-is_only c =
    let m = c.args.self.now.runs in
    let n = c.remove.new.self in
    drops_less m c.args.self.now.tiled c.args.number c.in-Some.at c.in-Some.ensures.0 n (updated c.in-Some.at None m n c.remove.ensures.updates) (c.in-Some.ensures.1.0 c.if-is_only.true)
