use Rattle.std.proofs.Common.{◌≡◌, ◌≤◌, ◌+◌, ◌-◌, ◌*◌, ◌/◌, ℕ, true, List, min, take, drop, length}
use Rattle.volume_terms.specs.Sizes.{Sizes}
use Rattle.pages.specs.State.{OnlyFinds, KeepsPower}
use Rattle.file_io.specs.Files.{FileIn, HasOnly}
use Rattle.file_io.specs.Chunks.{count_pages}
use Rattle.file_io.proofs.Ranges.{with_front}
use Rattle.file_io.proofs.reading.read_at.Given as goal

abbrev pub invariant-loop-index : goal.invariant-loop-index
invariant-loop-index g l = record {
  lookups : OnlyFinds (g.P.Pages.state l.fn.pages) (g.P.Pages.state l.pages);
  power : KeepsPower (g.P.Pages.state l.fn.pages) (g.P.Pages.state l.pages);
  issued : (g.P.Pages.state l.pages).issued ≤ (g.P.Pages.state l.fn.pages).issued + (l.index - l.offset / l.page_bytes);
  holes : (g.P.Pages.state l.fn.pages).sound ≡ true → (g.P.Pages.state l.pages).issued ≤ (g.P.Pages.state l.fn.pages).issued + count_pages (g.P.Pages.state l.fn.pages).present l.object (1 + l.offset / l.page_bytes) (l.index - l.offset / l.page_bytes);
  size : length l.buffer ≡ length l.fn.buffer;
  rest : drop (l.end - l.offset) l.buffer ≡ drop (l.end - l.offset) l.fn.buffer;
  read : (z : Sizes) (moment : ℕ) (all : List ℕ) (f : FileIn (g.P.Pages.state l.fn.pages) z l.object moment all) → HasOnly (g.P.Pages.state l.fn.pages).present l.object f.reads.fields → l.len ≡ length all
      → l.buffer ≡ with_front l.fn.buffer (take (min l.end (l.index * l.page_bytes) - l.offset) (drop l.offset all));
}
