use Rattle.std.proofs.Common.{◌≤◌, ◌<◌, ℕ, length, arith}
use Rattle.volume_terms.specs.Sizes.{page_slots}
use Rattle.volume_terms.specs.laws.Rounding.{slots_fit}
use Rattle.salvage.proofs.Slots.{lost_one, one_more}
use Rattle.salvage.proofs.listing.read_page.Goals as goal

pub loop-place-preserved : goal.loop-place-preserved
loop-place-preserved c = record {
  lists = λ z m d chunk at size first.
      let page = c.args.page.now in
      let place : ℕ = c.loop-place.place in
      let less : place < c.args.count = c.loop-place-test.true in
      let fits : c.args.count ≤ page_slots z = slots_fit z.page_bytes (length page) c.args.count size c.requires.room in
      one_more z m d chunk place page c.slot_of.result.now c.loop-place.listing c.read_slot.new.listing (omega (arith, less, fits)) at c.slot_of.ensures.bytes
      c.in_ok-read_slot.ensures (c.loop-place.invariant.lists z m d chunk at size first);
  lost =
      let one = lost_one c.slot_of.result.now c.loop-place.listing c.read_slot.new.listing c.in_ok-read_slot.ensures in
      let before = c.loop-place.invariant.lost in
      omega (arith, one, before);
}
