use Rattle.std.proofs.Common.{◌≡◌, length, refl, ap, arith}
use Rattle.flash_log.specs.RoomMaking.{FitsOpen}
use Rattle.page_store.specs.Buffered.{BufferedLog, held}
use Rattle.page_store.proofs.Costing.{writable_on}
use Rattle.page_store.proofs.Following.{buffers_moved}
use Rattle.page_store.proofs.Staying.{well_after}
use Rattle.page_store.proofs.Turning.{leaves_moved, leaves_on, turn_after}
use Rattle.page_store.proofs.turn.take_turn.Goals as goal

pub returns-in_err-make_room-clause-leaves : goal.returns-in_err-make_room-clause-leaves
returns-in_err-make_room-clause-leaves g c =
    let a : BufferedLog = held c.args.log.now c.args.buffer.now in
    let b : BufferedLog = held c.make_room.new.self c.args.buffer.now in
    leaves_moved c.args.log.now.spare a b c.make_room.ensures.step refl c.requires.buffers

pub returns-then-next_group-ge-NUMBER_END-clause-leaves : goal.returns-then-next_group-ge-NUMBER_END-clause-leaves
returns-then-next_group-ge-NUMBER_END-clause-leaves g c =
    let a : BufferedLog = held c.args.log.now c.args.buffer.now in
    let b : BufferedLog = held c.make_room.new.self c.args.buffer.now in
    leaves_moved c.args.log.now.spare a b c.make_room.ensures.step refl c.requires.buffers

pub write_in_room-requires-clause-buffers : goal.write_in_room-requires-clause-buffers
write_in_room-requires-clause-buffers g c =
    buffers_moved c.args.log.now.index c.make_room.new.self.index c.make_room.ensures.step.index _ c.requires.buffers

pub write_in_room-requires-clause-pages : goal.write_in_room-requires-clause-pages
write_in_room-requires-clause-pages g c =
    let a : BufferedLog = held c.args.log.now c.args.buffer.now in
    let b : BufferedLog = held c.make_room.new.self c.args.buffer.now in
    writable_on a.log.device b.log.device a.pages c.make_room.ensures.step.lasts c.requires.pages

pub returns-clause-leaves : goal.returns-clause-leaves
returns-clause-leaves g c =
    let a : BufferedLog = held c.args.log.now c.args.buffer.now in
    let b : BufferedLog = held c.make_room.new.self c.args.buffer.now in
    let d : BufferedLog = held c.write_in_room.new.log c.write_in_room.new.buffer in
    leaves_on c.args.log.now.spare a b d c.args.log.now.consistent c.make_room.ensures.step refl (rw c.make_room.ensures.terms.spare at c.write_in_room.ensures).leaves

pub returns-clause-well : goal.returns-clause-well
returns-clause-well g c =
    let a : BufferedLog = held c.args.log.now c.args.buffer.now in
    let b : BufferedLog = held c.make_room.new.self c.args.buffer.now in
    let d : BufferedLog = held c.write_in_room.new.log c.write_in_room.new.buffer in
    let same : FitsOpen (length a.pages) a.log.table → b.log ≡ a.log = λ fits.
    let many = ap length c.pages.ensures in
    let stays = c.make_room.ensures.sufficient (omega (arith, fits, many)) in
    stays.log in
    well_after (length a.pages) a.log b.log d.log c.write_in_room.result c.make_room.ensures.step.lasts (rw c.make_room.ensures.terms.spare at c.write_in_room.ensures).leaves.log.lasts same (rw c.make_room.ensures.terms.spare at c.write_in_room.ensures).well

pub returns-clause-ends : goal.returns-clause-ends
returns-clause-ends g c =
    let a : BufferedLog = held c.args.log.now c.args.buffer.now in
    let b : BufferedLog = held c.make_room.new.self c.args.buffer.now in
    let d : BufferedLog = held c.write_in_room.new.log c.write_in_room.new.buffer in
    turn_after c.args.log.now.spare a b d c.write_in_room.result c.args.log.now.consistent c.make_room.ensures.step refl c.in_ok-make_room.ensures.ends.within_limit (rw c.make_room.ensures.terms.spare at c.write_in_room.ensures).ends
