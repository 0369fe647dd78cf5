use Rattle.std.proofs.Common.{◌≡◌, ◌≤◌, ◌+◌, ◌*◌, ℕ, Some, length}
use Rattle.volume_terms.specs.Sizes.{Sizes, page_slots}
use Rattle.pages.specs.Maps.{PageMap, has}
use Rattle.salvage.specs.Reported.{ListsSlots}
use Rattle.salvage.proofs.listing.read_page.Given as goal

abbrev pub invariant-loop-place : goal.invariant-loop-place
invariant-loop-place l = record {
  lists : (z : Sizes) (m : PageMap) (d chunk : ℕ) → m d (1 + chunk) ≡ Some l.page → z.page_bytes ≡ length l.page
      → ListsSlots z (has m) d (chunk * page_slots z) l.fn.listing → ListsSlots z (has m) d (chunk * page_slots z + l.place) l.listing;
  lost : l.listing.lost ≤ l.fn.listing.lost + l.place;
}
