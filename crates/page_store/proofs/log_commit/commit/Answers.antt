use Rattle.std.proofs.Common.{◌≡◌, ◌+◌, ◌*◌, [], length, sym, ap, subst, ◌∙◌, arith, inl, inr, refl, rules}
use Rattle.std.proofs.lemmas.Bool.{eqb-true}
use Rattle.std.proofs.lemmas.List.{nil_from_length}
use Rattle.nand_model.specs.Calls.{Device}
use Rattle.nand_model.specs.laws.Calls.{lasts_here}
use Rattle.block_state.specs.Committed.{bad_count}
use Rattle.block_state.specs.Table.{Table}
use Rattle.page_store.specs.BufferOf.{contents}
use Rattle.page_store.specs.laws.Buffering.{buffers_empty}
use Rattle.transactions.specs.Checking.{log_of}
use Rattle.transactions.specs.laws.Handing.{hands_nothing}
use Rattle.flash_log.specs.laws.Mountable.{mountable_on}
use Rattle.page_store.specs.Buffered.{BufferedLog, held, in_parts}
use Rattle.page_store.specs.Committing.{StaysOpen}
use Rattle.page_store.proofs.Costing.{costs_more, costs_none}
use Rattle.page_store.proofs.Staying.{stays_recounted}
use Rattle.page_store.proofs.Findable.{finds_committed, mountable_empty}
use Rattle.page_store.proofs.GroupCounts.{ListsAreWhole}
use Rattle.page_store.proofs.Settling.{bad_empty, carries_empty, free_empty, hands_counted, was_committed_before, committed_empty, ready_counted, consistent_empty}
use Rattle.page_store.proofs.Turning.{carries_either, keeps_or_shows, shown_committed, whole_committed}
use Rattle.page_store.proofs.log_commit.commit.Goals as goal

pub invariant_of-log : goal.invariant_of-log
invariant_of-log g c =
    let a : BufferedLog = held c.args.log.now c.args.buffer.now in
    let b : BufferedLog = in_parts g.N.Nand.state c.args.log.now.device c.settle_empty.new.blocks c.settle_empty.new.index c.settle_empty.new.buffer in
    let long : length c.pages.result.now ≡ 0 = eqb-true (length c.pages.result.now) 0 (sym c.if-is_empty.ensures) in
    let none : a.pages ≡ [] = nil_from_length a.pages (sym (ap length c.pages.ensures) ∙ long) in
    let lists : ListsAreWhole = let l = c.the_list_of_a_block_is_whole.ensures in record { committed = l.committed; here = l.here; count = l.count; all = l.all; once = l.once } in
    let settled = c.settle_empty.ensures in
    let w = settled.settles.0 in
    let settles = settled.settles.1 in
    let r = c.requires in
    let d : Device = a.log.device in
    let t : Table = a.log.table in
    let v : Table = b.log.table in
    record {
      can_write = ready_counted d t v _ _ settled.counts c.args.log.now.can_write;
      consistent = consistent_empty c.args.log.now.spare lists w d t v a.index b.index a.pages none r.buffers.buffers c.args.log.now.can_write c.args.log.now.consistent r.reserve.1 settles settled.agree settled.counts;
      room_size = c.args.log.now.room_size;
      mountable = mountable_on c.args.log.now.origin.first (log_of d t) (log_of d v) a.index b.index (lasts_here d)
          (mountable_empty lists w d t v a.index b.index a.pages none r.buffers.buffers settles c.args.log.now.consistent.tables.counts settled.agree settled.counts) c.args.log.now.mountable;
    }

pub returns-then-is_empty-clause-log : goal.returns-then-is_empty-clause-log
returns-then-is_empty-clause-log g c =
    let a : BufferedLog = held c.args.log.now c.args.buffer.now in
    let b : BufferedLog = in_parts g.N.Nand.state c.args.log.now.device c.settle_empty.new.blocks c.settle_empty.new.index c.settle_empty.new.buffer in
    let long : length c.pages.result.now ≡ 0 = eqb-true (length c.pages.result.now) 0 (sym c.if-is_empty.ensures) in
    let none : a.pages ≡ [] = nil_from_length a.pages (sym (ap length c.pages.ensures) ∙ long) in
    let lists : ListsAreWhole = let l = c.the_list_of_a_block_is_whole.ensures in record { committed = l.committed; here = l.here; count = l.count; all = l.all; once = l.once } in
    let settled = c.settle_empty.ensures in
    let w = settled.settles.0 in
    let settles = settled.settles.1 in
    let r = c.requires in
    let d : Device = a.log.device in
    let t : Table = a.log.table in
    let v : Table = b.log.table in
    record {
      lasts = lasts_here d;
      can_write = ready_counted d t v _ _ settled.counts c.args.log.now.can_write;
      consistent = consistent_empty c.args.log.now.spare lists w d t v a.index b.index a.pages none r.buffers.buffers c.args.log.now.can_write c.args.log.now.consistent r.reserve.1 settles settled.agree settled.counts;
      numbers = hands_counted d d t t v _ _ settled.counts (hands_nothing d t);
      mountable = mountable_empty lists w d t v a.index b.index a.pages none r.buffers.buffers settles c.args.log.now.consistent.tables.counts settled.agree settled.counts;
    }

pub returns-then-is_empty-clause-carries : goal.returns-then-is_empty-clause-carries
returns-then-is_empty-clause-carries g c = λ honest.
    let log = c.args.log.now in
    let d : Device = g.N.Nand.state log.device in
    record { newest = λ carried. inl (record { carried = carried; found = λ was. finds_committed d log.index d.flash was.found }); shows = search rules }

pub returns-then-is_empty-clause-pays : goal.returns-then-is_empty-clause-pays
returns-then-is_empty-clause-pays g c =
    let a : BufferedLog = held c.args.log.now c.args.buffer.now in
    let b : BufferedLog = in_parts g.N.Nand.state c.args.log.now.device c.settle_empty.new.blocks c.settle_empty.new.index c.settle_empty.new.buffer in
    let long : length c.pages.result.now ≡ 0 = eqb-true (length c.pages.result.now) 0 (sym c.if-is_empty.ensures) in
    let none : a.pages ≡ [] = nil_from_length a.pages (sym (ap length c.pages.ensures) ∙ long) in
    let lists : ListsAreWhole = let l = c.the_list_of_a_block_is_whole.ensures in record { committed = l.committed; here = l.here; count = l.count; all = l.all; once = l.once } in
    let settled = c.settle_empty.ensures in
    let w = settled.settles.0 in
    let settles = settled.settles.1 in
    let r = c.requires in
    let d : Device = a.log.device in
    let t : Table = a.log.table in
    let v : Table = b.log.table in
    let same : bad_count v ≡ bad_count t = bad_empty c.args.log.now.spare lists w d t v a.index b.index a.pages none r.buffers.buffers c.args.log.now.can_write c.args.log.now.consistent r.reserve.1 settles settled.agree settled.counts in
    let zero_long : length a.pages ≡ 0 = ap length none in
    record {
      costs = costs_more 0 (length a.pages + d.geometry.pages + 1) (3 * d.geometry.pages + 3) d d (omega arith) (costs_none (3 * d.geometry.pages + 3) d);
      marks = omega (arith, same);
      answers = omega (arith, same);
      reads = omega (arith, zero_long);
      takes_none = λ _ _. omega arith;
      takes_one = λ _ _. omega arith;
    }

pub returns-then-is_empty-clause-well : goal.returns-then-is_empty-clause-well
returns-then-is_empty-clause-well g c =
    let a : BufferedLog = held c.args.log.now c.args.buffer.now in
    let b : BufferedLog = in_parts g.N.Nand.state c.args.log.now.device c.settle_empty.new.blocks c.settle_empty.new.index c.settle_empty.new.buffer in
    let long : length c.pages.result.now ≡ 0 = eqb-true (length c.pages.result.now) 0 (sym c.if-is_empty.ensures) in
    let none : a.pages ≡ [] = nil_from_length a.pages (sym (ap length c.pages.ensures) ∙ long) in
    record {
      stays_open = λ _ _. subst (λ n. StaysOpen n a.log.table b.log.table) (sym (ap length none)) (stays_recounted a.log.table b.log.table _ _ c.settle_empty.ensures.counts);
      unhindered = λ _. refl;
    }

pub returns-then-is_empty-clause-buffer : goal.returns-then-is_empty-clause-buffer
returns-then-is_empty-clause-buffer g c =
    let a : BufferedLog = held c.args.log.now c.args.buffer.now in
    let b : BufferedLog = in_parts g.N.Nand.state c.args.log.now.device c.settle_empty.new.blocks c.settle_empty.new.index c.settle_empty.new.buffer in
    let settled = c.settle_empty.ensures in
    (settled.sizes, record { buffers = buffers_empty b.index b.pages settled.unbuffered settled.empty; waits = inr (settled.empty, settled.settles.1.presents); keys = settled.settles.1.has_room })

pub returns-then-is_empty-clause-nothing : goal.returns-then-is_empty-clause-nothing
returns-then-is_empty-clause-nothing g c = λ none.
    let settles = c.settle_empty.ensures.settles in
    record { done = refl; device = refl; committed = was_committed_before settles.0 c.args.log.now.index c.settle_empty.new.index (contents c.args.buffer.now) none c.requires.buffers.buffers settles.1 }

pub returns-then-is_empty-clause-ends : goal.returns-then-is_empty-clause-ends
returns-then-is_empty-clause-ends g c =
    let a : BufferedLog = held c.args.log.now c.args.buffer.now in
    let b : BufferedLog = in_parts g.N.Nand.state c.args.log.now.device c.settle_empty.new.blocks c.settle_empty.new.index c.settle_empty.new.buffer in
    let long : length c.pages.result.now ≡ 0 = eqb-true (length c.pages.result.now) 0 (sym c.if-is_empty.ensures) in
    let none : a.pages ≡ [] = nil_from_length a.pages (sym (ap length c.pages.ensures) ∙ long) in
    let lists : ListsAreWhole = let l = c.the_list_of_a_block_is_whole.ensures in record { committed = l.committed; here = l.here; count = l.count; all = l.all; once = l.once } in
    let settled = c.settle_empty.ensures in
    let w = settled.settles.0 in
    let settles = settled.settles.1 in
    let r = c.requires in
    let d : Device = a.log.device in
    let t : Table = a.log.table in
    let v : Table = b.log.table in
    let same : bad_count v ≡ bad_count t = bad_empty c.args.log.now.spare lists w d t v a.index b.index a.pages none r.buffers.buffers c.args.log.now.can_write c.args.log.now.consistent r.reserve.1 settles settled.agree settled.counts in
    let committed = committed_empty c.args.log.now.spare lists w d t v a.index b.index a.pages none r.buffers.buffers c.args.log.now.can_write c.args.log.now.consistent r.reserve.1 settles settled.agree settled.counts in
    let zero_long : length a.pages ≡ 0 = ap length none in
    let within_limit = r.reserve.0 in
    record {
      unbuffered = settled.unbuffered;
      empty = settled.empty;
      last = settled.last;
      committed = λ _. committed;
      present = λ _ q k. shown_committed b.index d.flash b.pages settles.presents q k ∙ committed q k;
      newest = λ _. carries_empty c.args.log.now.spare lists w d t v a.index b.index a.pages none r.buffers.buffers c.args.log.now.can_write c.args.log.now.consistent r.reserve.1 settles settled.agree settled.counts;
      within_limit = omega (arith, same, within_limit);
      free = free_empty c.args.log.now.spare lists w d t v a.index b.index a.pages none r.buffers.buffers c.args.log.now.can_write c.args.log.now.consistent r.reserve.1 settles settled.agree settled.counts;
      power = λ some. absurd (omega (arith, some, zero_long));
      answered = λ some. absurd (omega (arith, some, zero_long));
    }

pub returns-clause-log : goal.returns-clause-log
returns-clause-log g c = c.write_whole.ensures.leaves.log

pub returns-clause-buffer : goal.returns-clause-buffer
returns-clause-buffer g c =
    let leaves = c.write_whole.ensures.leaves in
    (c.write_whole.ensures.sizes, record { buffers = leaves.buffers; waits = leaves.waits; keys = leaves.keys })

pub returns-clause-carries : goal.returns-clause-carries
returns-clause-carries g c =
    let a : BufferedLog = held c.args.log.now c.args.buffer.now in
    let b : BufferedLog = held c.write_whole.new.log c.write_whole.new.buffer in
    let leaves = c.write_whole.ensures.leaves in λ honest. record {
      newest = carries_either c.args.log.now.spare a b c.args.log.now.can_write c.args.log.now.consistent leaves.log honest (leaves.newest honest);
      shows = keeps_or_shows c.args.log.now.spare a b.log.device (leaves.newest honest);
    }

pub returns-clause-ends : goal.returns-clause-ends
returns-clause-ends g c =
    let a : BufferedLog = held c.args.log.now c.args.buffer.now in
    let b : BufferedLog = held c.write_whole.new.log c.write_whole.new.buffer in
    whole_committed c.args.log.now.spare a b c.write_whole.result c.write_whole.ensures.ends
