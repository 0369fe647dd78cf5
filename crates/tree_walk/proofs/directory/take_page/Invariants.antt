use Rattle.std.proofs.Common.{◌≡◌, ◌+◌, ◌*◌, Some, length}
use Rattle.volume_terms.specs.Sizes.{Sizes, page_slots}
use Rattle.pages.specs.Maps.{PageMap}
use Rattle.tree_walk.specs.SlotLists.{HasSlots}
use Rattle.tree_walk.proofs.directory.take_page.Given as goal

abbrev pub invariant-loop-place : goal.invariant-loop-place
invariant-loop-place l = (z : Sizes) (m : PageMap) → m l.at.directory (1 + l.at.number) ≡ Some l.page → z.page_bytes ≡ length l.page → HasSlots z m l.at.directory (l.at.number * page_slots z) l.fn.seen
    → HasSlots z m l.at.directory (l.at.number * page_slots z + l.place) l.seen
