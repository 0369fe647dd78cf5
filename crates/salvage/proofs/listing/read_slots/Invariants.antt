use Rattle.std.proofs.Common.{◌≤◌, ◌*◌, min}
use Rattle.volume_terms.specs.Sizes.{Sizes, page_slots}
use Rattle.pages.specs.Maps.{has}
use Rattle.pages.specs.State.{OnlyFinds}
use Rattle.tree_walk.specs.Visits.{IsSeen}
use Rattle.salvage.specs.SeenBy.{seen_by}
use Rattle.salvage.specs.Reported.{ListsSlots}
use Rattle.salvage.proofs.listing.read_slots.Given as goal

abbrev pub invariant-loop-chunk : goal.invariant-loop-chunk
invariant-loop-chunk g l = record {
  lookups : OnlyFinds (seen_by l.fn.pages) (seen_by l.pages);
  lost : l.listing.lost ≤ min l.length (l.chunk * l.slots);
  slots : (z : Sizes) → IsSeen z (seen_by l.fn.pages) → ListsSlots z (has (seen_by l.fn.pages).present) l.directory (min l.length (l.chunk * page_slots z)) l.listing;
}
