use Rattle.volume_terms.specs.Sizes.{Sizes}
use Rattle.pages.specs.Maps.{has}
use Rattle.pages.specs.State.{OnlyFinds}
use Rattle.tree_walk.specs.Visits.{IsSeen}
use Rattle.salvage.specs.Orphans.{ListsUnnamed}
use Rattle.salvage.specs.SeenBy.{seen_by}
use Rattle.salvage.proofs.orphans.find_unnamed.Given as goal

abbrev pub invariant-loop-place : goal.invariant-loop-place
invariant-loop-place g l = record {
  lookups : OnlyFinds (seen_by l.fn.pages) (seen_by l.pages);
  unnamed : (z : Sizes) → IsSeen z (seen_by l.fn.pages) → ListsUnnamed z (has (seen_by l.fn.pages).present) l.named l.objects l.place l.list.items;
}
