-- The newest pages of the blocks that were scanned.
use Rattle.std.specs.Prelude.{◌≡◌, ◌↔◌, ◌<◌, ◌^◌, ℕ, true, List, Contains}
use Rattle.nand_model.specs.Flash.{Flash}
use Rattle.nand_model.specs.Calls.{Device}
use Rattle.flash_tree.specs.Newest.{Spot, Holds, IsAfter}
use Rattle.flash_tree.specs.declared.place.Found.{Found}
use Rattle.flash_tree.specs.Places.{spot_of}
use Rattle.mount_scan.specs.Copies.{copy_at, copy_of, spot_of_copy}
use Rattle.mount_scan.specs.Keys.{HaveOneKey, ThinsFound}
use Rattle.mount_scan.specs.declared.page_copy.PageCopy.{PageCopy}

-- What is reported of a block: of each device places in it, and of an honest one exactly the pages that count.
pub record ReportsBlock (device : Device) (b : ℕ) (list : List Found) : Type 0 where
  pub placed : (f : Found) → Contains list f → (f.block ≡ b) × (f.page < device.geometry.pages)
  pub exact : device.honest ≡ true → (f : Found) → Contains list f ↔ ((f.block ≡ b) × Holds device.flash f.tag.object f.tag.chunk (spot_of f))

-- the pages of a block were added
pub record AddsBlock (device : Device) (b : ℕ) (old new : List PageCopy) : Type 0 where
  pub pages : List Found
  pub reports : ReportsBlock device b pages
  pub thins : ThinsFound pages old new

-- the page of a copy counts
pub record IsCountedCopy (flash : Flash) (x : PageCopy) : Type 0 where
  pub spot : Spot
  pub holds : Holds flash x.object x.chunk spot
  pub copied : copy_at spot ≡ x

-- What is left of the blocks below b: of each device places in them of chunks that a tree may look up, and of an honest one copies of
-- pages that count, among which is one for each such page that counts in these blocks, of its key, that it does not come after.
pub record HasLatestBelow (device : Device) (b : ℕ) (list : List PageCopy) : Type 0 where
  pub placed : (f : PageCopy) → Contains list f → (f.block < b) × (f.page < device.geometry.pages)
  pub low : (f : PageCopy) → Contains list f → f.chunk < 2 ^ 32
  pub held : device.honest ≡ true → (f : PageCopy) → Contains list f → IsCountedCopy device.flash f
  pub some : device.honest ≡ true → (g : Found) → g.block < b → g.tag.chunk < 2 ^ 32 → Holds device.flash g.tag.object g.tag.chunk (spot_of g)
      → (f : PageCopy) × Contains list f × HaveOneKey f (copy_of g) × (IsAfter (spot_of g) (spot_of_copy f) → ⊥)
