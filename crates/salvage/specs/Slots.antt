-- One slot of a directory, gone through.
-- From: this project.
use Rattle.std.specs.Prelude.{◌≡◌, ◌≢◌, ◌⊎◌, ◌+◌, ℕ, List, [], ◌∷◌, ◌++◌, Some, length}
use Rattle.page_tags.specs.Slots.{Entry, slot_bytes}
use Rattle.volume_terms.specs.Sizes.{Sizes}
use Rattle.flash_tree.specs.Slots.{IsTreeSlot}
use Rattle.pages.specs.Maps.{PageMap}
use Rattle.salvage.specs.Reported.{pairs_of}
use Rattle.salvage.specs.declared.reported.Listing.{Listing}

-- this holds, by the sizes of a volume with pages as long as this one, of each chunk of a directory's slots that has it
abbrev pub OfSlotPage : List ℕ → (Sizes → PageMap → (d chunk : ℕ) → Type 0) → Type 0
OfSlotPage page A = (z : Sizes) (m : PageMap) (d chunk : ℕ) → m d (1 + chunk) ≡ Some page → z.page_bytes ≡ length page → A z m d chunk

-- the bytes are a slot, whose name and object come behind the others
pub record TakesEntry (bytes : List ℕ) (entry : Entry) (old new : Listing) : Type 0 where
  pub valid : IsTreeSlot entry
  pub are : bytes ≡ slot_bytes entry
  pub pairs : pairs_of new ≡ pairs_of old ++ (entry.name, entry.object) ∷ []
  pub lost : new.lost ≡ old.lost

-- the bytes are no slot, and one more is lost
pub record LosesOne (bytes : List ℕ) (old new : Listing) : Type 0 where
  pub no_slot : (entry : Entry) → IsTreeSlot entry → bytes ≢ slot_bytes entry
  pub pairs : pairs_of new ≡ pairs_of old
  pub lost : new.lost ≡ old.lost + 1

-- the one or the other
abbrev pub TakesSlot : List ℕ → Listing → Listing → Type 0
TakesSlot bytes old new = ((entry : Entry) × TakesEntry bytes entry old new) ⊎ LosesOne bytes old new
