-- What a mount gives.
-- From: this project.
use Rattle.std.specs.Prelude.{◌≡◌, ◌↔◌, true}
use Rattle.nand_model.specs.Calls.{Device}
use Rattle.nand_model.specs.declared.nand.Nand.{Ghosts}
use Rattle.posix_profile.specs.State.{Objects}
use Rattle.flash_tree.specs.Checkpoints.{IsChecked, IsTrueFlash}
use Rattle.page_store.specs.declared.flash_pages.FlashPages.{FlashPages}
use Rattle.page_store.specs.Checked.{HasTrueFlash}
use Rattle.pages.specs.State.{PagesState}
use Rattle.mounting.specs.Made.{AreNext, CanOnlyBeRead, HasSizes, IsMountedWith, Remembers}
use Rattle.mounting.specs.Named.{IsReadAs, IsTrustedSince}
use Rattle.mounting.specs.Places.{ArePlaced}
use Rattle.mounting.specs.Reads.{ReadsAllTags, ReadsAtMost}
use Rattle.mounting.specs.declared.mounted.Mounted.{Mounted}

-- The pages, the table and the names are those of one volume, which can be written but where blocks or numbers are used up; and if their
-- device is honest, the next numbers are above those on its flash, they are those of the tree that it shows, and they lie as a scan finds them.
pub record IsMade {N : Type 0} {nand : Ghosts N} (state : FlashPages N nand → PagesState) (m : Mounted N nand) : Type 0 where
  pub sizes : HasSizes (state m.pages) m.table
  pub worn : (state m.pages).worn ≡ m.read_only
  pub read_only : (m.read_only ≡ true) ↔ CanOnlyBeRead (state m.pages)
  pub next : (state m.pages).device.honest ≡ true → AreNext (state m.pages).device.flash (state m.pages).next
  pub tree : (state m.pages).device.honest ≡ true → (objects : Objects) × IsMountedWith (state m.pages) m.table m.names objects
  pub placed : (state m.pages).device.honest ≡ true → ArePlaced (state m.pages).device (state m.pages).spare m.pages

-- What a mount of a device gives is made of it: it was only read, by so many pages, and is trusted where its flash was true, by whichever
-- way it went; then the block that is noted is the only one with a whole checkpoint, which is right. The flash of an honest device is
-- remembered.
pub record IsGiven {N : Type 0} {nand : Ghosts N} (state : FlashPages N nand → PagesState) (device now : Device) (m : Mounted N nand) : Type 0 where
  pub since : IsTrustedSince device now (state m.pages).device
  pub made : IsMade state m
  pub checked : HasTrueFlash device → IsChecked device.geometry device.flash (state m.pages).checkpoint
  pub within_limit : ReadsAtMost device (state m.pages).device
  pub remembers : device.honest ≡ true → Remembers device (state m.pages)

-- What a mount by all tags gives of a device is made of it: it was only read, by so many pages, and is trusted whatever its flash is; and where
-- each whole checkpoint is right, the block that is noted is the only one with one. The flash of an honest device is remembered.
pub record IsGivenByScan {N : Type 0} {nand : Ghosts N} (state : FlashPages N nand → PagesState) (device now : Device) (m : Mounted N nand) : Type 0 where
  pub since : IsReadAs true device now (state m.pages).device
  pub made : IsMade state m
  pub checked : device.honest ≡ true → IsTrueFlash device.geometry device.flash → IsChecked device.geometry device.flash (state m.pages).checkpoint
  pub within_limit : ReadsAllTags device (state m.pages).device
  pub remembers : device.honest ≡ true → Remembers device (state m.pages)
