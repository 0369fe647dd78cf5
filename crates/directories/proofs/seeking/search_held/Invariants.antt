use Rattle.std.proofs.Common.{◌-◌, ◌≡◌, ◌<◌, ◌≤◌, ◌+◌, ◌≢◌, ℕ, List, Some, slice_get, true, length}
use Rattle.name_index.specs.Hashes.{fnv1a}
use Rattle.name_index.specs.Names.{Holds}
use Rattle.page_tags.specs.Slots.{Entry}
use Rattle.volume_terms.specs.Sizes.{Sizes}
use Rattle.pages.specs.State.{OnlyFinds, KeepsPower}
use Rattle.directories.specs.Directories.{SlotOf}
use Rattle.directories.specs.Named.{AreHeld}
use Rattle.directories.proofs.seeking.search_held.Given as goal

abbrev pub invariant-loop-from : goal.invariant-loop-from
invariant-loop-from g l = record {
  lookups : OnlyFinds (g.P.Pages.state l.fn.pages) (g.P.Pages.state l.pages);
  power : KeepsPower (g.P.Pages.state l.fn.pages) (g.P.Pages.state l.pages);
  issued : (slots : List ℕ) × AreHeld l.names l.directory l.name slots × ((i s : ℕ) → slice_get slots i ≡ Some s → s < l.from)
      × ((g.P.Pages.state l.pages).issued ≤ (g.P.Pages.state l.fn.pages).issued + length slots);
  hash : l.hash ≡ fnv1a l.name;
  none : (g.P.Pages.state l.fn.pages).sound ≡ true → (z : Sizes) → z.page_bytes ≡ (g.P.Pages.state l.fn.pages).page_bytes
      → (i : ℕ) → i < l.from → Holds l.names l.directory (fnv1a l.name) i → (e : Entry) × SlotOf z (g.P.Pages.state l.fn.pages).present l.directory i e × (e.name ≢ l.name);
}

abbrev pub decreases-loop-from : goal.decreases-loop-from
decreases-loop-from g l = l.length - l.from
