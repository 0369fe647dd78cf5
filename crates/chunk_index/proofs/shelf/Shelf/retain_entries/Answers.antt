use Rattle.std.proofs.Common.{sym, arith}
use Rattle.block_state.specs.TableOf.{table}
use Rattle.chunk_index.proofs.Staying.{object_counted, object_size, gone_size, gone_retains, gone_counts, gone_tallies}
use Rattle.chunk_index.proofs.shelf.Shelf.retain_entries.Goals as goal

pub retain-gone-requires : goal.retain-gone-requires
retain-gone-requires g c = record { totaled = object_counted (table c.args.blocks.now) c.args.self.now.objects c.args.object c.in-Some.entries.now (sym c.in-Some.ensures.value) c.requires.tallies }

pub overflow_sub-self : goal.overflow_sub-self
overflow_sub-self g c =
    let most = object_size c.args.self.now.objects c.args.object c.in-Some.entries.now (sym c.in-Some.ensures.value) c.args.self.now.size c.args.self.now.totaled in
    omega (arith, most, c.retain-gone.ensures.gone)

pub invariant_of-self : goal.invariant_of-self
invariant_of-self g c =
    let old = c.args.self.now.objects in
    let new = c.get_mut.follows.lender c.retain-gone.new.self in
    record {
      ordered = (c.get_mut.follows.holds c.retain-gone.new.self).4;
      totaled = gone_size c.args.object old new c.in-Some.entries.now c.retain-gone.new.self (sym c.in-Some.ensures.value) (c.get_mut.follows.holds c.retain-gone.new.self) c.retain-gone.result c.args.self.now.size c.retain-gone.ensures.gone c.args.self.now.totaled;
      bounded = omega (arith, c.args.self.now.bounded);
    }

pub returns-in-Some-clause-retains : goal.returns-in-Some-clause-retains
returns-in-Some-clause-retains g c = gone_retains c.args.object c.args.self.now.objects (c.get_mut.follows.lender c.retain-gone.new.self) c.in-Some.entries.now c.retain-gone.new.self (sym c.in-Some.ensures.value) (c.get_mut.follows.holds c.retain-gone.new.self) (g.F.KeyFilter.keeps c.args.filter.now c.args.object) c.retain-gone.ensures.items

pub returns-in-Some-clause-tallies : goal.returns-in-Some-clause-tallies
returns-in-Some-clause-tallies g c = gone_tallies c.args.object c.args.self.now.objects (c.get_mut.follows.lender c.retain-gone.new.self) c.in-Some.entries.now c.retain-gone.new.self (sym c.in-Some.ensures.value) (c.get_mut.follows.holds c.retain-gone.new.self) _ _ c.retain-gone.ensures.counts c.requires.tallies

pub returns-in-Some-clause-counts : goal.returns-in-Some-clause-counts
returns-in-Some-clause-counts g c = gone_counts c.args.object c.args.self.now.objects (c.get_mut.follows.lender c.retain-gone.new.self) c.in-Some.entries.now c.retain-gone.new.self (sym c.in-Some.ensures.value) (c.get_mut.follows.holds c.retain-gone.new.self) _ _ c.retain-gone.ensures.counts
