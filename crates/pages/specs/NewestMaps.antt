-- Maps of the newest pages of a flash.
use Rattle.std.specs.Prelude.{◌≡◌, ◌↔◌, ◌<◌, ◌^◌, ℕ, List, Some}
use Rattle.nand_model.specs.Flash.{Flash}
use Rattle.flash_tree.specs.Newest.{HasNewest}
use Rattle.pages.specs.Maps.{PageMap}

-- the page of each key of a chunk that a tree may look up is the data of its newest page; a key without one, or of another chunk, has none
abbrev pub IsNewestMap : Flash → PageMap → Type 0
IsNewestMap flash m = (o c : ℕ) (xs : List ℕ) → (m o c ≡ Some xs) ↔ (HasNewest flash o c xs × (c < 2 ^ 32))
