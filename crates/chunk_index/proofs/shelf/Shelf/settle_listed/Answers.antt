use Rattle.std.proofs.Common.{◌≡◌, ◌+◌, ◌-◌, get_or, length, sym, arith}
use Rattle.std.proofs.lemmas.List.{get_or_default}
use Rattle.block_state.specs.TableOf.{table}
use Rattle.flash_tree.specs.declared.place.Key.{Key}
use Rattle.chunk_index.specs.Settled.{IsChunkIn, IsListedIn}
use Rattle.chunk_index.proofs.Staying.{object_size, gone_size}
use Rattle.chunk_index.proofs.SettlingEntries.{may_entries}
use Rattle.chunk_index.proofs.SettlingKeys.{chunks_written, run_meant, run_absent}
use Rattle.chunk_index.proofs.shelf.Shelf.settle_listed.Goals as goal

pub settle_run-end-requires-clause-may : goal.settle_run-end-requires-clause-may
settle_run-end-requires-clause-may c =
    let self = c.args.self.now in
    let d : Key = record { object = 0; chunk = 0 } in
    may_entries c.args.group self.objects (get_or c.args.keys.now c.args.from d).object (table c.args.blocks.now) c.in-Some.entries.now (sym c.in-Some.ensures.value) c.requires.may self.size self.totaled self.bounded

pub overflow_sub-self-in-Some : goal.overflow_sub-self-in-Some
overflow_sub-self-in-Some c =
    let self = c.args.self.now in
    let d : Key = record { object = 0; chunk = 0 } in
    let most = object_size self.objects (get_or c.args.keys.now c.args.from d).object c.in-Some.entries.now (sym c.in-Some.ensures.value) self.size self.totaled in
    omega (arith, most, c.len-before.ensures)

pub invariant_of-self : goal.invariant_of-self
invariant_of-self c =
    let self = c.args.self.now in
    let d : Key = record { object = 0; chunk = 0 } in
    let y = c.settle_run-end.new.self in
    let through = c.get_mut.follows.holds y in
    let gone = c.len-before.result - c.len.result in
    let counted : length y.entries.items + gone ≡ length c.in-Some.entries.now.entries.items = omega (arith, c.settle_run-end.ensures.settles.fewer, c.len-before.ensures, c.len.ensures) in
    record {
      ordered = through.4;
      totaled = gone_size (get_or c.args.keys.now c.args.from d).object self.objects (c.get_mut.follows.lender y) c.in-Some.entries.now y (sym c.in-Some.ensures.value) through gone self.size counted self.totaled;
      bounded = omega (arith, self.bounded);
    }

pub returns-in-Some-clause-settles : goal.returns-in-Some-clause-settles
returns-in-Some-clause-settles c =
    let keys = c.args.keys.now in
    let from = c.args.from in
    let end = c.settle_run-end.result in
    let d : Key = record { object = 0; chunk = 0 } in
    let y = c.settle_run-end.new.self in
    let object = (get_or keys from d).object in
    chunks_written c.args.group object c.args.self.now.objects (c.get_mut.follows.lender y) _ _ c.in-Some.entries.now y (sym c.in-Some.ensures.value) (c.get_mut.follows.holds y) (IsChunkIn keys from end) c.settle_run-end.ensures.settles c.requires.may.tallies
    (IsListedIn keys from end) (run_meant keys from end object d c.settle_run-end.ensures.object)

pub returns-in-None-clause-settles : goal.returns-in-None-clause-settles
returns-in-None-clause-settles c =
    let keys = c.args.keys.now in
    let from = c.args.from in
    let d : Key = record { object = 0; chunk = 0 } in
    rw c.get_mut.follows.holds-at-none (run_absent c.args.group keys from (get_or keys from d) c.args.self.now.objects (table c.args.blocks.now) (λ e. get_or_default keys from e d c.requires.from) (sym c.in-None.ensures.value) c.requires.may.tallies)
