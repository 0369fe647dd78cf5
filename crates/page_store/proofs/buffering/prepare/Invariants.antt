use Rattle.std.proofs.Common.{◌<◌, ℕ}
use Rattle.pages.specs.Maps.{IsPageOf}
use Rattle.chunk_index.specs.Maps.{IsReadyKey, SameCommitted, SamePresent, StaysPrepared}
use Rattle.page_store.proofs.buffering.prepare.Given as goal

abbrev pub invariant-loop-page : goal.invariant-loop-page
invariant-loop-page l = record {
  committed : SameCommitted l.fn.index l.index;
  present : SamePresent l.fn.index l.index;
  has_room : (o c i : ℕ) → i < l.page-index → IsPageOf l.pages o c i → IsReadyKey l.index o c;
  stays : (o c : ℕ) → IsReadyKey l.fn.index o c → IsReadyKey l.index o c;
  prepared : StaysPrepared l.fn.index l.index;
}
