use Rattle.std.proofs.Common.{refl, sym, ap, subst}
use Rattle.page_store.specs.Slots.{HasSize, Reserved, held_in}
use Rattle.page_store.proofs.CachedPages.{writes, vacated_sized, found_sized}
use Rattle.page_store.proofs.cache.PageCache.vacate.Goals as goal

pub invariant_of-self : goal.invariant_of-self
invariant_of-self c = record {
  sized = vacated_sized _ c.args.self.now.slots _ c.args.self.now.sized (c.args.key.object, c.args.key.chunk) c.replace-over.new.dest c.replace-over.ensures.after refl;
  spare_sized = c.args.self.now.spare_sized;
}

pub keep_frame-requires : goal.keep_frame-requires
keep_frame-requires c =
    subst (HasSize c.args.self.now.page_bytes) (sym c.replace-over.ensures.value)
    (found_sized _ c.args.self.now.slots c.args.self.now.slots c.args.self.now.sized (c.args.key.object, c.args.key.chunk) _ c.in-Some.slot.now (sym c.in-Some.ensures.value) refl)

pub returns-in-Some-clause-vacated : goal.returns-in-Some-clause-vacated
returns-in-Some-clause-vacated c = λ there.
    writes c.args.self.now c.keep_frame.new.self c.args.key.object c.args.key.chunk c.keep_frame.ensures.page_bytes c.replace-over.new.dest Reserved (ap held_in c.replace-over.ensures.after) there c.keep_frame.ensures.slots
