use Rattle.std.proofs.Common.{sym, arith}
use Rattle.block_state.specs.TableOf.{table}
use Rattle.chunk_index.proofs.Staying.{object_size, gone_size}
use Rattle.chunk_index.proofs.SettlingEntries.{may_entries, settles_written, settles_absent}
use Rattle.chunk_index.proofs.shelf.Shelf.settle_entries.Goals as goal

pub settle_from-gone-requires : goal.settle_from-gone-requires
settle_from-gone-requires c =
    let self = c.args.self.now in
    record { may = may_entries c.args.group self.objects c.args.from.object (table c.args.blocks.now) c.in-Some.entries.now (sym c.in-Some.ensures.value) c.requires self.size self.totaled self.bounded }

pub overflow_sub-self : goal.overflow_sub-self
overflow_sub-self c =
    let most = object_size c.args.self.now.objects c.args.from.object c.in-Some.entries.now (sym c.in-Some.ensures.value) c.args.self.now.size c.args.self.now.totaled in
    omega (arith, most, c.settle_from-gone.ensures.gone)

pub invariant_of-self : goal.invariant_of-self
invariant_of-self c =
    let y = c.settle_from-gone.new.self in
    let through = c.get_mut.follows.holds y in
    record {
      ordered = through.4;
      totaled = gone_size c.args.from.object c.args.self.now.objects (c.get_mut.follows.lender y) c.in-Some.entries.now y (sym c.in-Some.ensures.value) through c.settle_from-gone.result c.args.self.now.size c.settle_from-gone.ensures.gone c.args.self.now.totaled;
      bounded = omega (arith, c.args.self.now.bounded);
    }

pub returns-in-Some-clause-gone : goal.returns-in-Some-clause-gone
returns-in-Some-clause-gone c =
    let most = object_size c.args.self.now.objects c.args.from.object c.in-Some.entries.now (sym c.in-Some.ensures.value) c.args.self.now.size c.args.self.now.totaled in
    omega (arith, most, c.settle_from-gone.ensures.gone)

pub returns-in-Some-clause-settles : goal.returns-in-Some-clause-settles
returns-in-Some-clause-settles c =
    let y = c.settle_from-gone.new.self in
    settles_written c.args.group c.args.from c.args.self.now.objects (c.get_mut.follows.lender y) _ _ c.in-Some.entries.now y (sym c.in-Some.ensures.value) (c.get_mut.follows.holds y) c.settle_from-gone.ensures.items c.settle_from-gone.ensures.counts c.requires.tallies

pub returns-in-None-clause-settles : goal.returns-in-None-clause-settles
returns-in-None-clause-settles c = rw c.get_mut.follows.holds-at-none (settles_absent c.args.group c.args.from c.args.self.now.objects (table c.args.blocks.now) (sym c.in-None.ensures.value) c.requires.tallies)
