use Rattle.std.proofs.Common.{get_or, refl, subst, sym, arith, ap, length}
use Rattle.chunk_index.specs.Lists.{Rises}
use Rattle.chunk_index.specs.Entries.{chunk}
use Rattle.chunk_index.proofs.Gathering.{left_fewer}
use Rattle.chunk_index.proofs.Retaining.{all_stay, retained_by, rises_retained}
use Rattle.chunk_index.proofs.object.ObjectEntries.retain.Goals as goal

pub invariant_of-self : goal.invariant_of-self
invariant_of-self g c = record { rises = subst (Rises chunk) (sym c.gather.ensures.items) (rises_retained (g.F.KeyFilter.keeps c.args.filter.now c.args.object) c.args.self.now.entries.items c.args.self.now.rises) }

pub overflow_sub-result : goal.overflow_sub-result
overflow_sub-result g c =
    let same = ap length c.gather.ensures.items in
    let fewer = left_fewer (retained_by (g.F.KeyFilter.keeps c.args.filter.now c.args.object)) c.args.self.now.entries.items in
    omega (arith, same, fewer, c.len-before.ensures, c.len.ensures)

pub returns-clause-gone : goal.returns-clause-gone
returns-clause-gone g c =
    let same = ap length c.gather.ensures.items in
    let fewer = left_fewer (retained_by (g.F.KeyFilter.keeps c.args.filter.now c.args.object)) c.args.self.now.entries.items in
    omega (arith, same, fewer, c.len-before.ensures, c.len.ensures)

pub returns-then-keeps_all_below-clause-items : goal.returns-then-keeps_all_below-clause-items
returns-then-keeps_all_below-clause-items g c =
    let keeps = g.F.KeyFilter.keeps c.args.filter.now c.args.object in
    let es = c.args.self.now.entries.items in
    all_stay keeps es (λ i d lt. c.if-keeps_all_below.ensures refl (chunk (get_or es i d)) (c.end.ensures i d lt))
