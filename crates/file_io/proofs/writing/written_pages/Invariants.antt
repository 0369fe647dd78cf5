use Rattle.std.proofs.Common.{◌≡◌, ◌⊎◌, ◌<◌, ◌≤◌, ◌+◌, ◌-◌, ◌*◌, ◌%◌, ℕ, List, true, min, length}
use Rattle.volume_terms.specs.Sizes.{Sizes}
use Rattle.posix_profile.specs.Changes.{written}
use Rattle.pages.specs.Changes.{AreSized}
use Rattle.pages.specs.State.{OnlyFinds, KeepsPower}
use Rattle.file_io.specs.Files.{FileIn}
use Rattle.file_io.specs.Heads.{bits_in, IsHeadOf}
use Rattle.file_io.specs.Chunks.{AreOf, IsWritten, HoldChunks}
use Rattle.file_io.proofs.CommittedPages.{IsThere}
use Rattle.file_io.proofs.writing.written_pages.Given as goal

abbrev pub invariant-loop-index : goal.invariant-loop-index
invariant-loop-index g l = record {
  lookups : OnlyFinds (g.P.Pages.state l.fn.pages) (g.P.Pages.state l.pages);
  power : KeepsPower (g.P.Pages.state l.fn.pages) (g.P.Pages.state l.pages);
  issued : (g.P.Pages.state l.pages).issued ≤ (g.P.Pages.state l.fn.pages).issued + min 1 (l.offset - l.head.length)
      + min (min 1 (l.offset % l.page_bytes)) (l.index - l.first) + min (min 1 ((l.offset + length l.bytes) % l.page_bytes)) (l.index - (l.end - 1));
  reported : (g.P.Pages.state l.fn.pages).sound ≡ true → (k : ℕ) → l.first ≤ k → k < l.index → (k * l.page_bytes < l.offset) ⊎ (l.offset + length l.bytes < k * l.page_bytes + l.page_bytes)
      → IsThere (g.P.Pages.state l.fn.pages).present l.object (bits_in l.head) k;
  of : AreOf l.object (IsWritten l.page_bytes l.head.length (bits_in l.head) l.first l.index) l.fresh.items;
  within_limit : length l.fresh.items + l.first ≤ l.index + 1;
  sized : AreSized l.fresh.items l.page_bytes;
  hold : (z : Sizes) (moment : ℕ) (all : List ℕ) (f : FileIn (g.P.Pages.state l.fn.pages) z l.object moment all) → IsHeadOf l.head f.reads.fields
      → HoldChunks l.page_bytes (written all l.offset l.bytes) l.fresh.items;
}
