use Rattle.std.proofs.Common.{◌≤◌, ◌+◌, ◌-◌}
use Rattle.pages.specs.Maps.{has}
use Rattle.pages.specs.State.{OnlyFinds, KeepsPower}
use Rattle.volume_terms.specs.Sizes.{Sizes}
use Rattle.tree_walk.specs.Hashes.{CoversHeads}
use Rattle.tree_walk.specs.Visits.{IsSeen}
use Rattle.tree_walk.specs.Walks.{Knows, IsGoing, pages_before}
use Rattle.tree_walk.proofs.walking.walk.Given as goal

abbrev pub invariant-loop-place : goal.invariant-loop-place
invariant-loop-place g l = record {
  lookups : OnlyFinds (g.P.Pages.state l.fn.pages) (g.P.Pages.state l.pages);
  power : KeepsPower (g.P.Pages.state l.fn.pages) (g.P.Pages.state l.pages);
  knows : Knows l.walk;
  going : (z : Sizes) → IsSeen z (g.P.Pages.state l.fn.pages) → IsGoing z (has (g.P.Pages.state l.fn.pages).present) l.place l.walk;
  hashes : (z : Sizes) → IsSeen z (g.P.Pages.state l.fn.pages) → CoversHeads l.names z (g.P.Pages.state l.fn.pages).present l.walk.heads;
  within_limit : (z : Sizes) → IsSeen z (g.P.Pages.state l.fn.pages) → (g.P.Pages.state l.pages).issued ≤ (g.P.Pages.state l.fn.pages).issued + pages_before z l.walk l.place;
}

abbrev pub decreases-loop-place : goal.decreases-loop-place
decreases-loop-place g l = 18446744073709551616 - l.place
