use Rattle.std.proofs.Common.{◌∙◌, refl, sym}
use Rattle.page_store.proofs.CachedPages.{puts, pushed_sized, displaced_sized}
use Rattle.page_store.proofs.cache.PageCache.insert.Goals as goal

pub invariant_of-self : goal.invariant_of-self
invariant_of-self c = record {
  sized = pushed_sized _ c.args.self.now.slots _ c.args.self.now.sized (c.args.key.object, c.args.key.chunk) c.args.slot c.push.result c.requires c.push.ensures.entries c.push.ensures.err;
  spare_sized = c.args.self.now.spare_sized;
}

pub keep_frame-requires : goal.keep_frame-requires
keep_frame-requires c = displaced_sized _ c.args.self.now.slots c.push.new.self c.args.self.now.sized (c.args.key.object, c.args.key.chunk) _ c.args.slot _ (sym c.in-Ok-Some.ensures.old ∙ c.in-Ok-Some.field-0-is)

pub returns-in-Ok-None-clause-ok : goal.returns-in-Ok-None-clause-ok
returns-in-Ok-None-clause-ok c = puts c.args.self.now _ c.args.key.object c.args.key.chunk refl c.args.slot c.len-places.ensures.valid.1 c.in-Ok-None.ensures.entries

pub returns-in-Ok-Some-clause-ok : goal.returns-in-Ok-Some-clause-ok
returns-in-Ok-Some-clause-ok c =
    puts c.args.self.now c.keep_frame.new.self c.args.key.object c.args.key.chunk c.keep_frame.ensures.page_bytes c.args.slot c.len-places.ensures.valid.1
    (c.keep_frame.ensures.slots ∙ c.in-Ok-Some.ensures.entries)
