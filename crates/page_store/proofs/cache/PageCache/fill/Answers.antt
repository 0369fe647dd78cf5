use Rattle.std.proofs.Common.{refl, sym, ap, subst}
use Rattle.page_store.specs.Slots.{HasSize, held_in}
use Rattle.page_store.proofs.CachedPages.{writes_used, written_sized, found_sized, page_has}
use Rattle.page_store.proofs.cache.PageCache.fill.Goals as goal

pub invariant_of-self : goal.invariant_of-self
invariant_of-self c = record {
  sized = written_sized _ c.args.self.now.slots _ c.args.self.now.sized (c.args.key.object, c.args.key.chunk) c.replace-over.new.dest
      (subst (HasSize c.args.self.now.page_bytes) (sym c.replace-over.ensures.after) (page_has c.args.self.now.page_bytes c.args.frame c.requires)) refl;
  spare_sized = c.args.self.now.spare_sized;
}

pub keep_frame-requires : goal.keep_frame-requires
keep_frame-requires c =
    subst (HasSize c.args.self.now.page_bytes) (sym c.replace-over.ensures.value)
    (found_sized _ c.args.self.now.slots c.args.self.now.slots c.args.self.now.sized (c.args.key.object, c.args.key.chunk) _ c.in-Some.slot.now refl (sym c.in-Some.ensures.value))

pub keep_frame-requires-in-None : goal.keep_frame-requires-in-None
keep_frame-requires-in-None c = page_has c.args.self.now.page_bytes c.args.frame c.requires

pub returns-in-Some-clause-filled : goal.returns-in-Some-clause-filled
returns-in-Some-clause-filled c = λ there.
    writes_used c.args.self.now c.keep_frame.new.self c.args.key.object c.args.key.chunk c.keep_frame.ensures.page_bytes c.replace-over.new.dest _ (ap held_in c.replace-over.ensures.after) there c.keep_frame.ensures.slots
