use Rattle.std.proofs.Common.{◌≡◌, ◌<◌, ◌≤◌, ℕ, Some, IsSome, length, slice_get}
use Rattle.flash_tree.specs.declared.place.FreshPage.{FreshPage}
use Rattle.pages.specs.Maps.{PageMap}
use Rattle.page_store.specs.BufferOf.{contents, last_written, most_pages, bytes_of_page}
use Rattle.page_store.specs.Cached.{held, cached}
use Rattle.page_store.specs.Changes.{KeepsSizes}
use Rattle.page_store.specs.Caching.{Shows, AreIn}
use Rattle.page_store.proofs.caching.keep_written.Given as goal

abbrev pub invariant-loop-page : goal.invariant-loop-page
invariant-loop-page l = record {
  pages : contents l.buffer ≡ contents l.fn.buffer;
  buffer_sizes : (most_pages l.buffer ≡ most_pages l.fn.buffer) × (bytes_of_page l.buffer ≡ bytes_of_page l.fn.buffer);
  sizes : KeepsSizes l.fn.cache l.cache;
  shows : (m : PageMap) → Shows l.fn.cache m → AreIn (last_written l.fn.buffer) m → Shows l.cache m × AreIn (last_written l.buffer) m;
  places : (o c : ℕ) → IsSome (held l.fn.cache o c) → IsSome (held l.cache o c);
  rest : (i : ℕ) → i < length (last_written l.buffer) → slice_get (last_written l.buffer) i ≡ slice_get (last_written l.fn.buffer) i;
  takes : (i : ℕ) (p : FreshPage) → length (last_written l.buffer) ≤ i → slice_get (last_written l.fn.buffer) i ≡ Some p → IsSome (held l.fn.cache p.key.object p.key.chunk) → IsSome (cached l.cache p.key.object p.key.chunk);
}

abbrev pub decreases-loop-page : goal.decreases-loop-page
decreases-loop-page l = length (last_written l.buffer)
