use Rattle.std.proofs.Common.{◌≡◌, ◌<◌, ℕ, None}
use Rattle.pages.specs.Maps.{IsCut}
use Rattle.page_store.specs.Cached.{held, cached}
use Rattle.page_store.specs.Changes.{KeepsSizes}
use Rattle.page_store.specs.Caching.{HasNoMore}
use Rattle.page_store.proofs.caching.drop_cuts.Given as goal

abbrev pub invariant-loop-cut : goal.invariant-loop-cut
invariant-loop-cut l = record {
  sizes : KeepsSizes l.fn.cache l.cache;
  fewer : HasNoMore l.fn.cache l.cache;
  lacks : (o c i : ℕ) → i < l.cut-index → IsCut l.cuts o c i → cached l.cache o c ≡ None;
  others : (o c : ℕ) → ((i : ℕ) → i < l.cut-index → IsCut l.cuts o c i → ⊥) → held l.cache o c ≡ held l.fn.cache o c;
}
