use Rattle.std.proofs.Common.{◌≡◌, ◌<◌, ◌≤◌, ◌+◌, ℕ, length, Some, None, IsSome, slice_get}
use Rattle.flash_tree.specs.declared.place.FreshPage.{FreshPage}
use Rattle.pages.specs.Maps.{IsPageOf}
use Rattle.page_store.specs.Cached.{held, cached, held_count, capacity_of}
use Rattle.page_store.specs.Changes.{KeepsSizes}
use Rattle.page_store.specs.Caching.{HasNoMore}
use Rattle.page_store.proofs.caching.make_places.Given as goal

abbrev pub invariant-loop-page : goal.invariant-loop-page
invariant-loop-page l = record {
  sizes : KeepsSizes l.fn.cache l.cache;
  fewer : HasNoMore l.fn.cache l.cache;
  no_fewer : held_count l.fn.cache ≤ held_count l.cache;
  within_limit : held_count l.cache ≤ held_count l.fn.cache + l.page-index;
  places : held_count l.fn.cache + length l.pages ≤ capacity_of l.fn.cache → (i : ℕ) (p : FreshPage) → i < l.page-index → slice_get l.pages i ≡ Some p → IsSome (held l.cache p.key.object p.key.chunk);
  lacks : (o c i : ℕ) → i < l.page-index → IsPageOf l.pages o c i → cached l.cache o c ≡ None;
  others : held_count l.fn.cache + length l.pages ≤ capacity_of l.fn.cache → (o c : ℕ) → ((i : ℕ) → i < l.page-index → IsPageOf l.pages o c i → ⊥) → held l.cache o c ≡ held l.fn.cache o c;
}
