use Rattle.std.proofs.Common.{◌≡◌, length, sym, ap, subst, ◌∙◌, arith}
use Rattle.nand_model.specs.declared.geometry.Geometry.{Geometry}
use Rattle.block_state.specs.TableOf.{table}
use Rattle.transactions.specs.Checking.{log_of}
use Rattle.flash_log.specs.Bills.{PaysCopies}
use Rattle.flash_log.specs.laws.Mountable.{mountable_after}
use Rattle.flash_log.specs.laws.Room.{same_page}
use Rattle.flash_log.proofs.log.Log.move_committed.Goals as goal

pub invariant_of-self-clause-can_write : goal.invariant_of-self-clause-can_write
invariant_of-self-clause-can_write g c = c.move_listed.ensures.step.can_write

pub invariant_of-self-clause-consistent : goal.invariant_of-self-clause-consistent
invariant_of-self-clause-consistent g c = c.move_listed.ensures.step.consistent

pub invariant_of-self-clause-room_size : goal.invariant_of-self-clause-room_size
invariant_of-self-clause-room_size g c =
    let room_size = c.args.self.now.room_size in
    let geometry = c.move_listed.ensures.step.lasts.geometry in
    let same = c.list.ensures.same in
    let pages = ap (λ (x : Geometry). x.pages) geometry in
    let bytes = ap (λ (x : Geometry). x.bytes) geometry in
    record {
      copies = omega (arith, room_size.copies, same.copies, pages);
      entries = omega (arith, room_size.entries, same.entries, pages);
      scratch = same_page c.list.new.self.scratch.len c.move_listed.new.scratch _ (omega arith) ∙ omega (arith, room_size.scratch, same.scratch, bytes);
    }

pub invariant_of-self-clause-mountable : goal.invariant_of-self-clause-mountable
invariant_of-self-clause-mountable g c =
    let log = c.args.self.now in
    mountable_after log.origin.first log.spare (log_of (g.N.Nand.state log.device) (table log.blocks)) (log_of (g.N.Nand.state c.move_listed.new.device) (table c.move_listed.new.blocks)) log.index c.move_listed.new.index c.move_listed.ensures.step log.mountable

pub list-requires : goal.list-requires
list-requires g c =
    let tables = c.args.self.now.consistent.tables in
    let fits = tables.fits c.args.block in
    let count = tables.counts.counts c.args.block in
    let pages = ap (λ (x : Geometry). x.pages) c.args.self.now.can_write.geometry in
    omega (arith, fits, count, pages, c.args.self.now.room_size.copies)

pub returns-clause-pays : goal.returns-clause-pays
returns-clause-pays g c =
    let listed : length c.list.new.self.copies.items ≡ ((table c.args.self.now.blocks).entry c.args.block).committed = c.list.ensures.count ∙ sym (c.args.self.now.consistent.tables.counts.counts c.args.block) in
    let count : length c.deref.result.now ≡ ((table c.args.self.now.blocks).entry c.args.block).committed = omega (arith, listed) in
    subst (λ n. PaysCopies n (log_of (g.N.Nand.state c.args.self.now.device) (table c.args.self.now.blocks)) (log_of (g.N.Nand.state c.move_listed.new.device) (table c.move_listed.new.blocks)) c.move_listed.result)
    count c.move_listed.ensures.pays
