use Rattle.std.proofs.Common.{subst, sym, arith, ap, ◌∙◌, length, ◌≡◌}
use Rattle.chunk_index.specs.Lists.{Rises}
use Rattle.chunk_index.specs.Entries.{chunk}
use Rattle.chunk_index.specs.Settled.{settled_from, settled_entries}
use Rattle.chunk_index.proofs.Gathering.{left_fewer}
use Rattle.chunk_index.proofs.SettlingEntries.{rises_settled}
use Rattle.chunk_index.proofs.object.ObjectEntries.settle_from.Goals as goal

pub invariant_of-self : goal.invariant_of-self
invariant_of-self c =
    let items = c.settle_behind.ensures.items c.args.from c.count_below-first.ensures in
    record { rises = subst (Rises chunk) (sym items) (rises_settled c.args.from c.args.group c.args.self.now.entries.items c.args.self.now.rises) }

pub overflow_sub-result : goal.overflow_sub-result
overflow_sub-result c =
    let items = c.settle_behind.ensures.items c.args.from c.count_below-first.ensures in
    let same : length c.shrink.new.self.entries.items ≡ length (settled_entries c.args.from c.args.group c.args.self.now.entries.items) = ap length (c.shrink.ensures ∙ items) in
    let fewer = left_fewer (settled_from c.args.from c.args.group) c.args.self.now.entries.items in
    omega (arith, same, fewer, c.len-before.ensures, c.len.ensures)

pub returns-clause-items : goal.returns-clause-items
returns-clause-items c = c.shrink.ensures ∙ c.settle_behind.ensures.items c.args.from c.count_below-first.ensures

pub returns-clause-gone : goal.returns-clause-gone
returns-clause-gone c =
    let items = c.settle_behind.ensures.items c.args.from c.count_below-first.ensures in
    let same : length c.shrink.new.self.entries.items ≡ length (settled_entries c.args.from c.args.group c.args.self.now.entries.items) = ap length (c.shrink.ensures ∙ items) in
    let fewer = left_fewer (settled_from c.args.from c.args.group) c.args.self.now.entries.items in
    omega (arith, same, fewer, c.len-before.ensures, c.len.ensures)
