-- What one slot of a directory reports on a name.
use Rattle.std.specs.Prelude.{◌≡◌, ℕ, ◌+◌, ◌*◌, ◌/◌, ◌%◌, List, take, drop, Option, Some, Result, Ok, Err, IfOk}
use Rattle.std.proofs.Common.{sym, ◌∙◌}
use Rattle.flash_tree.specs.Slots.{IsTreeSlot}
use Rattle.page_tags.specs.Slots.{Entry, slot_bytes}
use Rattle.volume_terms.specs.Sizes.{Sizes, page_slots}
use Rattle.pages.specs.Maps.{PageMap}
use Rattle.pages.specs.declared.fault.PageFault.{PageFault}
use Rattle.directories.specs.Directories.{ReportsSlot}
use Rattle.directories.specs.Slots.{NamedBy}

module _ (z : Sizes) (m : PageMap) (d i : ℕ) (page : List ℕ) (is : m d (1 + i / page_slots z) ≡ Some page) (bytes : List ℕ) (at : bytes ≡ take 272 (drop (272 * (i % page_slots z)) page)) where
  -- what the bytes of the slot tell
  pub reported_in_slot : (name : List ℕ) (result : Result (Option ℕ) PageFault) → IfOk result (λ found. (entry : Entry) × IsTreeSlot entry × (bytes ≡ slot_bytes entry) × NamedBy entry name found)
      → IfOk result (ReportsSlot z m d i name)
  reported_in_slot name (Ok found) reported = (reported.0, (page, is, reported.1, sym at ∙ reported.2), reported.3)
  reported_in_slot name (Err fault) reported = tt
