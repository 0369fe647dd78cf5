use Rattle.std.proofs.Common.{refl, sym, ◌∙◌}
use Rattle.page_store.proofs.CachedPages.{found_sized, removes, removed_count, removed_sized}
use Rattle.page_store.proofs.cache.PageCache.remove.Goals as goal

pub invariant_of-self : goal.invariant_of-self
invariant_of-self c = record {
  sized = removed_sized _ c.args.self.now.slots _ c.args.self.now.sized (c.args.key.object, c.args.key.chunk) c.pop.ensures.entries;
  spare_sized = c.args.self.now.spare_sized;
}

pub keep_frame-requires : goal.keep_frame-requires
keep_frame-requires c = found_sized _ c.args.self.now.slots c.args.self.now.slots c.args.self.now.sized (c.args.key.object, c.args.key.chunk) _ _ (sym c.pop.ensures.value) c.in-Some.is

pub returns-in-Some-clause-gone : goal.returns-in-Some-clause-gone
returns-in-Some-clause-gone c = removes c.args.self.now _ c.args.key.object c.args.key.chunk c.keep_frame.ensures.page_bytes c.len-places.ensures.valid.0 (c.keep_frame.ensures.slots ∙ c.pop.ensures.entries)

pub returns-in-Some-clause-count : goal.returns-in-Some-clause-count
returns-in-Some-clause-count c = λ there. removed_count c.args.self.now.slots c.keep_frame.new.self.slots (c.args.key.object, c.args.key.chunk) there (c.keep_frame.ensures.slots ∙ c.pop.ensures.entries)

pub returns-in_default-clause-gone : goal.returns-in_default-clause-gone
returns-in_default-clause-gone c = removes c.args.self.now _ c.args.key.object c.args.key.chunk refl c.len-places.ensures.valid.0 c.pop.ensures.entries

pub returns-in_default-clause-count : goal.returns-in_default-clause-count
returns-in_default-clause-count c = λ there. removed_count c.args.self.now.slots c.pop.new.self (c.args.key.object, c.args.key.chunk) there c.pop.ensures.entries
