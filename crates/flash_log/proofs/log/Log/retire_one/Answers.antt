use Rattle.std.proofs.Common.{◌<◌, ◌∙◌, Option, sym, subst, arith, inl}
use Rattle.std.proofs.lemmas.Result.{err_from_is_err_and}
use Rattle.nand_model.specs.Calls.{Device}
use Rattle.nand_model.specs.declared.geometry.Geometry.{Geometry}
use Rattle.block_state.specs.Table.{Table}
use Rattle.block_state.specs.TableOf.{table}
use Rattle.flash_tree.specs.laws.Truth.{none_after}
use Rattle.transactions.specs.Checking.{log_of}
use Rattle.flash_log.specs.Mountable.{IsMountableSince}
use Rattle.flash_log.specs.Snapshots.{Snapshot}
use Rattle.flash_log.specs.Room.{IsRoomFor}
use Rattle.flash_log.specs.Consistency.{IsConsistentLog}
use Rattle.flash_log.specs.laws.Mountable.{mountable_after}
use Rattle.flash_log.specs.laws.Moves.{are_held}
use Rattle.flash_log.proofs.Refreshed.{fills_marked}
use Rattle.flash_log.proofs.Retired.{step_marked, pays_out, pays_unmarked, out}
use Rattle.flash_log.proofs.log.Log.retire_one.Goals as goal

pub invariant_of-self : goal.invariant_of-self
invariant_of-self g c =
    let d1 : Device = g.N.Nand.state c.args.self.now.device in
    let d2 : Device = g.N.Nand.state c.empty_block.new.self.device in
    let d3 : Device = g.N.Nand.state c.mark_emptied.new.device in
    let t1 : Table = table c.args.self.now.blocks in
    let t2 : Table = table c.empty_block.new.self.blocks in
    let t3 : Table = table c.mark_emptied.new.blocks in
    let y = c.empty_block.new.self.index in
    let e = c.in_ok-suspect.ensures in
    let m = c.mark_emptied.ensures in
    let within : c.args.block < t1.geometry.blocks = subst (λ (z : Geometry). c.args.block < z.blocks) (sym c.args.self.now.can_write.geometry) c.requires.block in
    let step = step_marked c.args.self.now.spare c.args.block d1 d2 d3 t1 t2 t3 c.args.self.now.index y m.marks.0 e.step (c.the_counts_are_of_the_keys.ensures.none y) within e.ends.left.uncommitted m.marks.1 m.can_write m.notes m.newest m.numbers in
    record {
      can_write = m.can_write;
      consistent = subst (λ s. IsConsistentLog s d3 t3 y) (sym e.terms.spare) step.consistent;
      room_size = subst (λ (z : Geometry). IsRoomFor z c.empty_block.new.self.room) (e.step.lasts.geometry ∙ sym step.lasts.geometry) c.empty_block.new.self.room_size;
      mountable = subst (λ (k : Option Snapshot). IsMountableSince k (log_of d3 t3) y) (sym e.terms.first)
          (mountable_after c.args.self.now.origin.first c.args.self.now.spare (log_of d1 t1) (log_of d3 t3) c.args.self.now.index y step c.args.self.now.mountable);
    }

pub returns-in_err-suspect-clause-pays : goal.returns-in_err-suspect-clause-pays
returns-in_err-suspect-clause-pays g c =
    let pays = c.in_err-suspect.ensures.pays in
    let p = err_from_is_err_and c.from_residual.result c.from_residual.ensures.1 in
    rw p.1 (record {
      costs = let costs = pays.costs in omega (arith, costs);
      marks = let marks = pays.marks in omega (arith, marks);
      answers = tt;
      reads = pays.reads;
    })

pub returns-in_err-mark_emptied-clause-step : goal.returns-in_err-mark_emptied-clause-step
returns-in_err-mark_emptied-clause-step g c =
    let d1 : Device = g.N.Nand.state c.args.self.now.device in
    let d2 : Device = g.N.Nand.state c.empty_block.new.self.device in
    let d3 : Device = g.N.Nand.state c.mark_emptied.new.device in
    let t1 : Table = table c.args.self.now.blocks in
    let t2 : Table = table c.empty_block.new.self.blocks in
    let t3 : Table = table c.mark_emptied.new.blocks in
    let y = c.empty_block.new.self.index in
    let e = c.in_ok-suspect.ensures in
    let m = c.mark_emptied.ensures in
    let within : c.args.block < t1.geometry.blocks = subst (λ (z : Geometry). c.args.block < z.blocks) (sym c.args.self.now.can_write.geometry) c.requires.block in
    step_marked c.args.self.now.spare c.args.block d1 d2 d3 t1 t2 t3 c.args.self.now.index y m.marks.0 e.step (c.the_counts_are_of_the_keys.ensures.none y) within e.ends.left.uncommitted m.marks.1 m.can_write m.notes m.newest m.numbers

pub returns-in_err-mark_emptied-clause-pays : goal.returns-in_err-mark_emptied-clause-pays
returns-in_err-mark_emptied-clause-pays g c =
    let d1 : Device = g.N.Nand.state c.args.self.now.device in
    let d2 : Device = g.N.Nand.state c.empty_block.new.self.device in
    let d3 : Device = g.N.Nand.state c.mark_emptied.new.device in
    let t1 : Table = table c.args.self.now.blocks in
    let t2 : Table = table c.empty_block.new.self.blocks in
    let t3 : Table = table c.mark_emptied.new.blocks in
    let y = c.empty_block.new.self.index in
    let e = c.in_ok-suspect.ensures in
    let m = c.mark_emptied.ensures in
    let within : c.args.block < t1.geometry.blocks = subst (λ (z : Geometry). c.args.block < z.blocks) (sym c.args.self.now.can_write.geometry) c.requires.block in
    let p = err_from_is_err_and c.from_residual-in_err-mark_emptied.result c.from_residual-in_err-mark_emptied.ensures.1 in
    rw p.1 (pays_unmarked c.args.self.now.spare c.args.block d1 d2 d3 t1 t2 t3 c.args.self.now.index y m.marks.0 e.step (c.the_counts_are_of_the_keys.ensures.none y) within e.ends.left.uncommitted m.marks.1 m.can_write m.notes m.newest m.numbers c.in_ok-suspect.suspect e.pays p.0)

pub returns-clause-step : goal.returns-clause-step
returns-clause-step g c =
    let d1 : Device = g.N.Nand.state c.args.self.now.device in
    let d2 : Device = g.N.Nand.state c.empty_block.new.self.device in
    let d3 : Device = g.N.Nand.state c.mark_emptied.new.device in
    let t1 : Table = table c.args.self.now.blocks in
    let t2 : Table = table c.empty_block.new.self.blocks in
    let t3 : Table = table c.mark_emptied.new.blocks in
    let y = c.empty_block.new.self.index in
    let e = c.in_ok-suspect.ensures in
    let m = c.mark_emptied.ensures in
    let within : c.args.block < t1.geometry.blocks = subst (λ (z : Geometry). c.args.block < z.blocks) (sym c.args.self.now.can_write.geometry) c.requires.block in
    step_marked c.args.self.now.spare c.args.block d1 d2 d3 t1 t2 t3 c.args.self.now.index y m.marks.0 e.step (c.the_counts_are_of_the_keys.ensures.none y) within e.ends.left.uncommitted m.marks.1 m.can_write m.notes m.newest m.numbers

pub returns-clause-pays : goal.returns-clause-pays
returns-clause-pays g c =
    let d1 : Device = g.N.Nand.state c.args.self.now.device in
    let d2 : Device = g.N.Nand.state c.empty_block.new.self.device in
    let d3 : Device = g.N.Nand.state c.mark_emptied.new.device in
    let t1 : Table = table c.args.self.now.blocks in
    let t2 : Table = table c.empty_block.new.self.blocks in
    let t3 : Table = table c.mark_emptied.new.blocks in
    let y = c.empty_block.new.self.index in
    let e = c.in_ok-suspect.ensures in
    let m = c.mark_emptied.ensures in
    let within : c.args.block < t1.geometry.blocks = subst (λ (z : Geometry). c.args.block < z.blocks) (sym c.args.self.now.can_write.geometry) c.requires.block in
    pays_out c.args.self.now.spare c.args.block d1 d2 d3 t1 t2 t3 c.args.self.now.index y m.marks.0 e.step (c.the_counts_are_of_the_keys.ensures.none y) within e.ends.left.uncommitted m.marks.1 m.can_write m.notes m.newest m.numbers c.in_ok-suspect.suspect e.pays e.ends.left.good c.in_ok-mark_emptied.ensures.ends.0

pub returns-clause-ends : goal.returns-clause-ends
returns-clause-ends g c =
    let d1 : Device = g.N.Nand.state c.args.self.now.device in
    let d2 : Device = g.N.Nand.state c.empty_block.new.self.device in
    let d3 : Device = g.N.Nand.state c.mark_emptied.new.device in
    let t1 : Table = table c.args.self.now.blocks in
    let t2 : Table = table c.empty_block.new.self.blocks in
    let t3 : Table = table c.mark_emptied.new.blocks in
    let y = c.empty_block.new.self.index in
    let e = c.in_ok-suspect.ensures in
    let m = c.mark_emptied.ensures in
    let within : c.args.block < t1.geometry.blocks = subst (λ (z : Geometry). c.args.block < z.blocks) (sym c.args.self.now.can_write.geometry) c.requires.block in
    let ends = c.in_ok-mark_emptied.ensures.ends in
    (out c.args.self.now.spare c.args.block d1 d2 d3 t1 t2 t3 c.args.self.now.index y m.marks.0 e.step (c.the_counts_are_of_the_keys.ensures.none y) within e.ends.left.uncommitted m.marks.1 m.can_write m.notes m.newest m.numbers c.in_ok-suspect.suspect e.ends ends.0 ends.1, ends.2)

pub returns-clause-anew : goal.returns-clause-anew
returns-clause-anew g c =
    let d1 : Device = g.N.Nand.state c.args.self.now.device in
    let d2 : Device = g.N.Nand.state c.empty_block.new.self.device in
    let d3 : Device = g.N.Nand.state c.mark_emptied.new.device in
    let t1 : Table = table c.args.self.now.blocks in
    let t2 : Table = table c.empty_block.new.self.blocks in
    let t3 : Table = table c.mark_emptied.new.blocks in
    let y = c.empty_block.new.self.index in
    let e = c.in_ok-suspect.ensures in
    let m = c.mark_emptied.ensures in
    fills_marked c.args.self.now.spare c.args.block d1 d2 d3 t1 t2 t3 y e.step.lasts m.marks.1.lasts e.step.consistent
    (are_held t2 y (c.the_counts_are_of_the_keys.ensures.none y) e.step.consistent.tables.counts) e.ends.left.uncommitted m.newest e.anew

pub mark_emptied-requires-clause-first : goal.mark_emptied-requires-clause-first
mark_emptied-requires-clause-first g c = inl (none_after _ _ _ _ c.in_ok-suspect.ensures.step.numbers.truth c.requires.none)
