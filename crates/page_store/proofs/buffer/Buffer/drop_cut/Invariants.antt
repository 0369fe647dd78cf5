use Rattle.std.proofs.Common.{◌≡◌, ◌-◌, length}
use Rattle.page_store.specs.BufferOf.{contents, most_pages, bytes_of_page}
use Rattle.page_store.proofs.BufferCutting.{Dropping}
use Rattle.page_store.proofs.buffer.Buffer.drop_cut.Given as goal

abbrev pub invariant-loop-slot : goal.invariant-loop-slot
invariant-loop-slot l = record {
  dropping : Dropping l.cut l.slot l.fn.index l.index (contents l.fn.self) (contents l.self);
  sizes : (most_pages l.self ≡ most_pages l.fn.self) × (bytes_of_page l.self ≡ bytes_of_page l.fn.self);
}

abbrev pub decreases-loop-slot : goal.decreases-loop-slot
decreases-loop-slot l = length (contents l.self) - l.slot
