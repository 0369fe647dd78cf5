-- The places of the pages that are lost.
use Rattle.std.specs.Prelude.{◌≡◌, ◌⊎◌, ◌↔◌, ◌<◌, ℕ, ◌+◌, List, Contains}
use Rattle.std.specs.List.{AllPairs}
use Rattle.nand_model.specs.Flash.{Flash}
use Rattle.surviving_pages.specs.declared.survivors.LostPlace.{LostPlace}
use Rattle.surviving_pages.specs.Surviving.{IsLost}

-- one place comes before another: by block, then by page
abbrev pub IsPlaceBefore : LostPlace → LostPlace → Type 0
IsPlaceBefore x y = (x.block < y.block) ⊎ ((x.block ≡ y.block) × (x.page < y.page))

-- exactly the places of lost pages, in their strict order, so that none is there twice
pub record ListsLost (flash : Flash) (list : List LostPlace) : Type 0 where
  pub each : (x : LostPlace) → Contains list x ↔ IsLost flash x.block x.page
  pub order : AllPairs IsPlaceBefore list

-- exactly the places of lost pages in blocks below b, in their strict order
pub record ListsLostBelow (flash : Flash) (b : ℕ) (list : List LostPlace) : Type 0 where
  pub each : (x : LostPlace) → Contains list x ↔ ((x.block < b) × IsLost flash x.block x.page)
  pub order : AllPairs IsPlaceBefore list

-- where the old list has exactly the lost places in blocks below b, in their order, the new one has those in block b too
abbrev pub AddsLostOfBlock : Flash → ℕ → List LostPlace → List LostPlace → Type 0
AddsLostOfBlock flash b old new = ListsLostBelow flash b old → ListsLostBelow flash (b + 1) new
