use Rattle.std.proofs.Common.{◌≡◌, ◌-◌, length, ◌∙◌, le_refl, arith}
use borrow.Rule.Slice.PartMut.{mid_len}
use Rattle.nand_image.proofs.Front.{length_put, front_more, front_committed}
use Rattle.nand_image.proofs.reading.fill.Goals as goal
use Rattle.nand_image.proofs.reading.fill.Goals.{in-Ok, in-Err+else-ne}

pub loop-turn-preserved : goal.loop-turn-preserved
loop-turn-preserved g c =
    let old = g.F.Read.remaining c.args.file.now in
    let mid = g.F.Read.remaining c.loop-turn.file in
    let new = g.F.Read.remaining c.read.new.self in
    let at = c.loop-turn.at in
    let buffer = c.loop-turn.buffer in
    let part = c.read.new.buf in
    let so_far = c.loop-turn.invariant in
    let size = length_put at buffer part so_far.within c.read.auto.buf in
    let room : length part ≡ length buffer - at = c.read.auto.buf ∙ mid_len at (length buffer) buffer (le_refl (length buffer)) in
    elim c.match-read.branch [
      | in-Ok w ↦ record {
        within = rw (w.at-is, size) (omega (arith, room, w.in-Ok.ensures.bound.0, so_far.within));
        read = rw w.at-is (front_more old mid new at w.in-Ok.n buffer part so_far.within w.in-Ok.ensures.bound.0 so_far.read w.in-Ok.ensures.bytes.0);
      }
      | in-Err+else-ne w ↦ record {
        within = rw (w.at-is, size) so_far.within;
        read = rw w.at-is (front_committed old mid new at buffer part so_far.within so_far.read w.in-Err.ensures.bytes);
      }
    ]
