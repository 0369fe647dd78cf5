use Rattle.std.proofs.Common.{◌≡◌, ◌<◌, ◌∙◌, List, length, Some, slice_get, refl, sym, arith}
use Rattle.std.proofs.lemmas.Option.{slice_get_read}
use Rattle.flash_tree.specs.declared.place.FreshPage.{FreshPage}
use Rattle.page_store.specs.BufferOf.{contents}
use Rattle.page_store.proofs.BufferCutting.{dropping_starts, dropping_passes, dropping_goes, dropping_ends}
use Rattle.page_store.proofs.buffer.Buffer.drop_cut.Goals as goal

pub loop-slot-init : goal.loop-slot-init
loop-slot-init c = record { dropping = dropping_starts c.args.cut c.args.index.now (contents c.args.self.now) c.requires.buffers; sizes = (refl, refl) }

pub loop-slot-preserved-then-takes : goal.loop-slot-preserved-then-takes
loop-slot-preserved-then-takes c =
    let pages : List FreshPage = contents c.loop-slot.self in
    let p : FreshPage = c.index.result.now in
    let lt : c.loop-slot.slot < length pages = omega (arith, c.loop-slot-test.true, c.len.ensures) in
    let at : slice_get pages c.loop-slot.slot ≡ Some p = slice_get_read pages (length pages) c.loop-slot.slot p refl lt c.index.ensures in
    record {
      dropping = dropping_goes c.args.cut c.loop-slot.slot c.args.index.now c.loop-slot.index c.drop_slot.new.index (contents c.args.self.now) pages (contents c.drop_slot.new.self) p at
          (sym c.takes.ensures ∙ c.if-takes.true) c.loop-slot.invariant.dropping c.drop_slot.ensures.buffers c.drop_slot.ensures.committed c.drop_slot.ensures.prepared c.drop_slot.ensures.drops;
      sizes = (c.drop_slot.ensures.sizes.0 ∙ c.loop-slot.invariant.sizes.0, c.drop_slot.ensures.sizes.1 ∙ c.loop-slot.invariant.sizes.1);
    }

pub loop-slot-preserved : goal.loop-slot-preserved
loop-slot-preserved c =
    let pages : List FreshPage = contents c.loop-slot.self in
    let p : FreshPage = c.index.result.now in
    let lt : c.loop-slot.slot < length pages = omega (arith, c.loop-slot-test.true, c.len.ensures) in
    let at : slice_get pages c.loop-slot.slot ≡ Some p = slice_get_read pages (length pages) c.loop-slot.slot p refl lt c.index.ensures in
    record {
      dropping = dropping_passes c.args.cut c.loop-slot.slot c.args.index.now c.loop-slot.index (contents c.args.self.now) pages p at (sym c.takes.ensures ∙ c.if-takes.false) c.loop-slot.invariant.dropping;
      sizes = c.loop-slot.invariant.sizes;
    }

pub returns-clause-drops : goal.returns-clause-drops
returns-clause-drops c = dropping_ends c.args.cut c.loop-slot.slot c.args.index.now c.loop-slot.index (contents c.args.self.now) (contents c.loop-slot.self) (omega (arith, c.loop-slot-test.false, c.len.ensures)) c.loop-slot.invariant.dropping
