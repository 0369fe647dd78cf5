use Rattle.std.proofs.Common.{◌≡◌, length}
use Rattle.std.specs.Vec.Iter.{into_iter_items, into_iter_len}
use Rattle.page_store.specs.BufferOf.{contents, most_pages, bytes_of_page}
use Rattle.page_store.specs.Buffering.{with_new}
use Rattle.page_store.proofs.Putting.{PuttingAll}
use Rattle.page_store.proofs.buffer.Buffer.put_all.Given as goal

abbrev pub invariant-loop-page : goal.invariant-loop-page
invariant-loop-page l = record {
  putting : PuttingAll (with_new l.fn.index (contents l.fn.self) l.fn.pages.items) (bytes_of_page l.fn.self) l.fn.pages.items (into_iter_items l.page-iterator) l.fn.index l.index (contents l.fn.self) (contents l.self);
  sizes : (most_pages l.self ≡ most_pages l.fn.self) × (bytes_of_page l.self ≡ bytes_of_page l.fn.self);
  len : into_iter_len l.page-iterator ≡ length (into_iter_items l.page-iterator);
}
