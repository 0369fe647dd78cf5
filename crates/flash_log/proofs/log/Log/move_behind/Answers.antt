use Rattle.std.proofs.Common.{◌≡◌, Vec, Global, length, sym, ap, subst, ◌∙◌, arith}
use Rattle.nand_model.specs.declared.geometry.Geometry.{Geometry}
use Rattle.block_state.specs.TableOf.{table}
use Rattle.transactions.specs.Checking.{log_of}
use Rattle.chunk_index.specs.declared.form.CommittedKey.{CommittedKey}
use Rattle.flash_log.specs.Gathering.{PaysOpen}
use Rattle.flash_log.specs.SummaryMaking.{HasClear}
use Rattle.flash_log.specs.laws.Mountable.{mountable_after}
use Rattle.flash_log.specs.laws.Room.{same_page}
use Rattle.flash_log.proofs.log.Log.move_behind.Goals as goal

pub invariant_of-self-clause-can_write : goal.invariant_of-self-clause-can_write
invariant_of-self-clause-can_write g c = c.move_open.ensures.step.can_write

pub invariant_of-self-clause-consistent : goal.invariant_of-self-clause-consistent
invariant_of-self-clause-consistent g c = c.move_open.ensures.step.consistent

pub invariant_of-self-clause-room_size : goal.invariant_of-self-clause-room_size
invariant_of-self-clause-room_size g c =
    let room_size = c.args.self.now.room_size in
    let geometry = c.move_open.ensures.step.lasts.geometry in
    let same = c.list.ensures.same in
    let noted = c.note_copies.ensures.same in
    let pages = ap (λ (x : Geometry). x.pages) geometry in
    let bytes = ap (λ (x : Geometry). x.bytes) geometry in
    record {
      copies = omega (arith, room_size.copies, same.copies, noted.copies, pages);
      entries = omega (arith, room_size.entries, same.entries, noted.entries, pages);
      scratch = same_page c.note_copies.new.self.scratch.len c.move_open.new.scratch _ (omega arith) ∙ omega (arith, room_size.scratch, same.scratch, noted.scratch, bytes);
    }

pub invariant_of-self-clause-mountable : goal.invariant_of-self-clause-mountable
invariant_of-self-clause-mountable g c =
    let log = c.args.self.now in
    mountable_after log.origin.first log.spare (log_of (g.N.Nand.state log.device) (table log.blocks)) (log_of (g.N.Nand.state c.move_open.new.device) (table c.move_open.new.blocks)) log.index c.move_open.new.index c.move_open.ensures.step log.mountable

pub list-requires : goal.list-requires
list-requires g c =
    let tables = c.args.self.now.consistent.tables in
    let fits = tables.fits c.args.block in
    let count = tables.counts.counts c.args.block in
    let pages = ap (λ (x : Geometry). x.pages) c.args.self.now.can_write.geometry in
    omega (arith, fits, count, pages, c.args.self.now.room_size.copies)

pub move_open-requires-clause-clear : goal.move_open-requires-clause-clear
move_open-requires-clause-clear g c =
    let listed : length c.list.new.self.copies.items ≡ ((table c.args.self.now.blocks).entry c.args.block).committed = c.list.ensures.count ∙ sym (c.args.self.now.consistent.tables.counts.counts c.args.block) in
    let noted : length c.note_copies.new.self.copies.items ≡ length c.list.new.self.copies.items = ap (λ (v : Vec CommittedKey Global). length v.items) c.note_copies.ensures.copies in
    let count : length c.deref.result.now ≡ ((table c.args.self.now.blocks).entry c.args.block).committed = omega (arith, listed, noted) in
    subst (λ n. HasClear n (g.N.Nand.state c.args.self.now.device) (table c.args.self.now.blocks)) (sym count) c.requires.clear

pub returns-clause-pays : goal.returns-clause-pays
returns-clause-pays g c =
    let listed : length c.list.new.self.copies.items ≡ ((table c.args.self.now.blocks).entry c.args.block).committed = c.list.ensures.count ∙ sym (c.args.self.now.consistent.tables.counts.counts c.args.block) in
    let noted : length c.note_copies.new.self.copies.items ≡ length c.list.new.self.copies.items = ap (λ (v : Vec CommittedKey Global). length v.items) c.note_copies.ensures.copies in
    let count : length c.deref.result.now ≡ ((table c.args.self.now.blocks).entry c.args.block).committed = omega (arith, listed, noted) in
    subst (λ n. PaysOpen n (log_of (g.N.Nand.state c.args.self.now.device) (table c.args.self.now.blocks)) (log_of (g.N.Nand.state c.move_open.new.device) (table c.move_open.new.blocks)) c.move_open.result)
    count c.move_open.ensures.pays
