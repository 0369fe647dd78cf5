use Rattle.std.proofs.Common.{◌≡◌, ◌≤◌, ◌+◌, ◌*◌, min, true}
use Rattle.volume_terms.specs.Sizes.{Sizes, page_slots}
use Rattle.pages.specs.State.{OnlyFinds, KeepsPower}
use Rattle.tree_walk.specs.SlotLists.{HasSlots}
use Rattle.tree_walk.proofs.directory.read_slots.Given as goal

abbrev pub invariant-loop-chunk : goal.invariant-loop-chunk
invariant-loop-chunk g l = record {
  lookups : OnlyFinds (g.P.Pages.state l.fn.pages) (g.P.Pages.state l.pages);
  power : KeepsPower (g.P.Pages.state l.fn.pages) (g.P.Pages.state l.pages);
  issued : (g.P.Pages.state l.pages).issued ≤ (g.P.Pages.state l.fn.pages).issued + l.chunk;
  slots : (g.P.Pages.state l.fn.pages).sound ≡ true → (z : Sizes) → z.page_bytes ≡ (g.P.Pages.state l.fn.pages).page_bytes
      → HasSlots z (g.P.Pages.state l.fn.pages).present l.directory (min l.length (l.chunk * page_slots z)) l.seen;
}
