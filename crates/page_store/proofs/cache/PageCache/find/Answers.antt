use Rattle.page_store.proofs.CachedPages.{promotes, promoted_sized}
use Rattle.std.proofs.Common.{refl}
use Rattle.page_store.proofs.cache.PageCache.find.Goals as goal

pub invariant_of-self : goal.invariant_of-self
invariant_of-self c = record {
  sized = promoted_sized _ c.args.self.now.slots _ c.args.self.now.sized (c.args.key.object, c.args.key.chunk) c.get.follows.holds-at-none;
  spare_sized = c.args.self.now.spare_sized;
}

pub invariant_of-self-in-None : goal.invariant_of-self-in-None
invariant_of-self-in-None c = record {
  sized = promoted_sized _ c.args.self.now.slots _ c.args.self.now.sized (c.args.key.object, c.args.key.chunk) c.get.follows.holds-at-none;
  spare_sized = c.args.self.now.spare_sized;
}

pub returns-in-Some-clause-same : goal.returns-in-Some-clause-same
returns-in-Some-clause-same c = promotes c.args.self.now _ c.args.key.object c.args.key.chunk refl c.get.follows.holds-at-none

pub returns-in-None-clause-same : goal.returns-in-None-clause-same
returns-in-None-clause-same c = promotes c.args.self.now _ c.args.key.object c.args.key.chunk refl c.get.follows.holds-at-none
