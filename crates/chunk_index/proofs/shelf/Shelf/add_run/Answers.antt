use Rattle.std.proofs.Common.{◌<◌, ◌≤◌, ◌+◌, ◌-◌, length, sym, arith}
use Rattle.block_state.specs.TableOf.{table}
use Rattle.chunk_index.specs.Adding.{keys_of}
use Rattle.chunk_index.proofs.AddingRuns.{grown_size, run_written}
use Rattle.chunk_index.proofs.SettlingEntries.{object_room}
use Rattle.chunk_index.proofs.Staying.{gone_counts, gone_tallies}
use Rattle.chunk_index.proofs.shelf.Shelf.add_run.Goals as goal

pub add_run-end-requires-clause-room : goal.add_run-end-requires-clause-room
add_run-end-requires-clause-room c =
    let self = c.args.self.now in
    object_room (table c.args.blocks.now) self.objects c.args.object c.in-Some.entries.now (sym c.in-Some.ensures.value) c.requires.tallies self.size (length (keys_of c.args.pages) - c.args.from) self.totaled (omega (arith, c.if-len-from.false, c.room.ensures, c.len.ensures, c.requires.from))

pub invariant_of-self : goal.invariant_of-self
invariant_of-self c =
    let self = c.args.self.now in
    let y = c.add_run-end.new.self in
    let through = c.get_mut.follows.holds y in
    record {
      ordered = through.4;
      totaled = grown_size (keys_of c.args.pages) c.args.from c.add_run-end.result c.args.object self.objects (c.get_mut.follows.lender y) _ _ c.in-Some.entries.now y (sym c.in-Some.ensures.value) through c.add_run-end.ensures.adds (c.add_run-end.ensures.end.0) self.size self.totaled;
      bounded = omega (arith, c.if-len-from.false, c.room.ensures, c.len.ensures, c.requires.from, c.add_run-end.ensures.end.0, c.add_run-end.ensures.end.1);
    }

pub returns-in-Some-clause-adds : goal.returns-in-Some-clause-adds
returns-in-Some-clause-adds c =
    let y = c.add_run-end.new.self in
    run_written (keys_of c.args.pages) c.args.from c.add_run-end.result c.args.object c.args.self.now.objects (c.get_mut.follows.lender y) _ _ c.in-Some.entries.now y (sym c.in-Some.ensures.value) (c.get_mut.follows.holds y) c.add_run-end.ensures.adds c.add_run-end.ensures.object

pub returns-in-Some-clause-tallies : goal.returns-in-Some-clause-tallies
returns-in-Some-clause-tallies c =
    let y = c.add_run-end.new.self in
    gone_tallies c.args.object c.args.self.now.objects (c.get_mut.follows.lender y) c.in-Some.entries.now y (sym c.in-Some.ensures.value) (c.get_mut.follows.holds y) _ _ c.add_run-end.ensures.adds.counts c.requires.tallies

pub returns-in-Some-clause-counts : goal.returns-in-Some-clause-counts
returns-in-Some-clause-counts c =
    let y = c.add_run-end.new.self in
    gone_counts c.args.object c.args.self.now.objects (c.get_mut.follows.lender y) c.in-Some.entries.now y (sym c.in-Some.ensures.value) (c.get_mut.follows.holds y) _ _ c.add_run-end.ensures.adds.counts
