use Rattle.std.proofs.Common.{◌≡◌}
use Rattle.page_store.specs.BufferOf.{contents, most_pages, bytes_of_page}
use Rattle.page_store.proofs.BufferCutting.{CuttingAll}
use Rattle.page_store.proofs.buffer.Buffer.cut_all.Given as goal

abbrev pub invariant-loop-cut : goal.invariant-loop-cut
invariant-loop-cut l = record {
  cutting : CuttingAll l.cuts l.cut-index l.fn.index l.index (contents l.fn.self) (contents l.self);
  sizes : (most_pages l.self ≡ most_pages l.fn.self) × (bytes_of_page l.self ≡ bytes_of_page l.fn.self);
}
