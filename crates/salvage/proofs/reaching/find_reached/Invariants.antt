use Rattle.std.proofs.Common.{◌-◌}
use Rattle.volume_terms.specs.Sizes.{Sizes}
use Rattle.pages.specs.Maps.{has}
use Rattle.pages.specs.State.{OnlyFinds}
use Rattle.tree_walk.specs.Visits.{IsSeen}
use Rattle.salvage.specs.Reaching.{IsReaching, Knows}
use Rattle.salvage.specs.SeenBy.{seen_by}
use Rattle.salvage.proofs.reaching.find_reached.Given as goal

abbrev pub invariant-loop-place : goal.invariant-loop-place
invariant-loop-place g l = record {
  lookups : OnlyFinds (seen_by l.fn.pages) (seen_by l.pages);
  knows : Knows l.named;
  reaching : (z : Sizes) → IsSeen z (seen_by l.fn.pages) → IsReaching z (has (seen_by l.fn.pages).present) l.from l.place l.named.objects.items;
}

abbrev pub decreases-loop-place : goal.decreases-loop-place
decreases-loop-place g l = 18446744073709551616 - l.place
