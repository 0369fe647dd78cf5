use Rattle.std.proofs.Common.{◌≡◌, ◌<◌, ℕ, None}
use Rattle.pages.specs.Maps.{IsPageOf}
use Rattle.page_store.specs.Cached.{held, cached}
use Rattle.page_store.specs.Changes.{KeepsSizes}
use Rattle.page_store.specs.Caching.{HasNoMore, KeepsKeys}
use Rattle.page_store.proofs.caching.drop_pages.Given as goal

abbrev pub invariant-loop-page : goal.invariant-loop-page
invariant-loop-page l = record {
  sizes : KeepsSizes l.fn.cache l.cache;
  fewer : HasNoMore l.fn.cache l.cache;
  lacks : (o c i : ℕ) → i < l.page-index → IsPageOf l.pages o c i → cached l.cache o c ≡ None;
  others : (o c : ℕ) → ((i : ℕ) → i < l.page-index → IsPageOf l.pages o c i → ⊥) → held l.cache o c ≡ held l.fn.cache o c;
  places : KeepsKeys l.fn.cache l.cache;
}
