-- What a volume represents once it is mounted.
-- From: this project.
use Rattle.std.specs.Prelude.{◌≡◌, ◌↔◌, Bool, true, false}
use Rattle.flash_tree.specs.Checkpoints.{IsChecked, IsTrueFlash}
use Rattle.page_store.specs.declared.flash_pages.FlashPages.{FlashPages}
use Rattle.flash_tree.specs.Mount.{Answers, IsTreeOf}
use Rattle.lives.specs.Lives.{at_mount}
use Rattle.mounting.specs.Given.{IsMade}
use Rattle.mounting.specs.Made.{CanOnlyBeRead, AreNext, IsMountedWith, Remembers}
use Rattle.mounting.specs.Named.{IsReadAs, IsTrustedSince}
use Rattle.mounting.specs.Places.{ArePlaced}
use Rattle.mounting.specs.Reads.{ReadsAllTags, ReadsAtMost}
use Rattle.mounting.specs.declared.mounted.Mounted.{Mounted}
use Rattle.nand_model.specs.Calls.{Device}
use Rattle.nand_model.specs.declared.nand.Nand.{Ghosts}
use Rattle.page_store.specs.Checked.{HasTrueFlash}
use Rattle.object_store.specs.Reported.{table_sizes}
use Rattle.posix_calls.specs.PageVolumes.{pages_of, is_read_only, is_stopped, IsVolumeOf}
use Rattle.posix_calls.specs.declared.page_volume.PageVolume.{PageVolume}
use Rattle.pages.specs.State.{PagesState}
use Rattle.paged_objects.specs.Parts as parts
use Rattle.paged_objects.specs.Representing.{volume_of, Shown}
use Rattle.paged_objects.specs.declared.store.PagedObjects.{PagedObjects}
use Rattle.posix_profile.specs.State.{Objects}

-- These objects are mounted: they are those of the tree, and their pages are worn exactly where they can only be read.
pub record AreMounted {P : Type 0} (state : P → PagesState) (o : PagedObjects P) (read_only : Bool) (tree : Objects) : Type 0 where
  pub sizes : table_sizes (parts.table_of o) ≡ volume_of (state (parts.pages_of o))
  pub mounted : IsMountedWith (state (parts.pages_of o)) (parts.table_of o) (parts.names_of o) tree
  pub worn : (state (parts.pages_of o)).worn ≡ read_only

-- The volume represents the tree that its device shows, with no descriptor open; and a mount would show the tree again.
pub record RepresentsTree {P : Type 0} (state : P → PagesState) (v : PageVolume P) (objects : Objects) : Type 0 where
  pub answers : Answers (state (pages_of v)).device.geometry (state (pages_of v)).device.flash (IsTreeOf (state (pages_of v)).spare objects)
  pub volume : IsVolumeOf state (volume_of (state (pages_of v))) (at_mount objects) v
  pub shown : Shown (volume_of (state (pages_of v))) (state (pages_of v)) objects

-- The pages of the volume lie as a scan of its device finds them, if that is trusted and honest.
abbrev pub LieAsScanned : {N : Type 0} {nand : Ghosts N} → (FlashPages N nand → PagesState) → PageVolume (FlashPages N nand) → Type 0
LieAsScanned state v = (state (pages_of v)).device.honest ≡ true → ArePlaced (state (pages_of v)).device (state (pages_of v)).spare (pages_of v)

-- The volume of a device is mounted. The device was only read, keeps its power, and is trusted where its flash was true. Then, if it is
-- honest, the next numbers are above those on its flash, and the volume represents the tree that it shows; and the block that is noted
-- is the only one with a whole checkpoint, which is right. Where the flash was true and sound, so many pages were read: with a whole
-- checkpoint at most a page of each block, those of the checkpoint and those that are looked up to see the tree; and without one at most
-- a page of each block, the pages of one, all pages of the good blocks and those that are looked up. Its pages remember the flash of an honest device.
pub record IsMounted {P : Type 0} (state : P → PagesState) (device : Device) (v : PageVolume P) : Type 0 where
  pub now : Device
  pub since : IsTrustedSince device now (state (pages_of v)).device
  pub goes_on : is_stopped v ≡ false
  pub read_only : (is_read_only v ≡ true) ↔ CanOnlyBeRead (state (pages_of v))
  pub next : (state (pages_of v)).device.honest ≡ true → AreNext (state (pages_of v)).device.flash (state (pages_of v)).next
  pub tree : (state (pages_of v)).device.honest ≡ true → (objects : Objects) × RepresentsTree state v objects
  pub checked : HasTrueFlash device → IsChecked device.geometry device.flash (state (pages_of v)).checkpoint
  pub within_limit : ReadsAtMost device (state (pages_of v)).device
  pub remembers : device.honest ≡ true → Remembers device (state (pages_of v))

-- The volume of a device is mounted by all tags, whatever its flash is. The device was only read, and keeps its power. Then, if it is honest,
-- the next numbers are above those on its flash, and the volume represents the tree that it shows; and where each whole checkpoint is right,
-- the block that is noted is the only one with one. Of a sound flash at most a page of each block, the pages of one, all pages of the good
-- blocks and those that are looked up to see the tree were read. Its pages remember the flash of an honest device.
pub record IsMountedByScan {P : Type 0} (state : P → PagesState) (device : Device) (v : PageVolume P) : Type 0 where
  pub now : Device
  pub since : IsReadAs true device now (state (pages_of v)).device
  pub goes_on : is_stopped v ≡ false
  pub read_only : (is_read_only v ≡ true) ↔ CanOnlyBeRead (state (pages_of v))
  pub next : (state (pages_of v)).device.honest ≡ true → AreNext (state (pages_of v)).device.flash (state (pages_of v)).next
  pub tree : (state (pages_of v)).device.honest ≡ true → (objects : Objects) × RepresentsTree state v objects
  pub checked : device.honest ≡ true → IsTrueFlash device.geometry device.flash → IsChecked device.geometry device.flash (state (pages_of v)).checkpoint
  pub within_limit : ReadsAllTags device (state (pages_of v)).device
  pub remembers : device.honest ≡ true → Remembers device (state (pages_of v))

-- A volume is over the pages that a mount gave: it goes on, can only be read where that says so, and represents the tree of the pages of
-- an honest device.
pub record IsOver {N : Type 0} {nand : Ghosts N} (state : FlashPages N nand → PagesState) (m : Mounted N nand) (v : PageVolume (FlashPages N nand)) : Type 0 where
  pub pages : pages_of v ≡ m.pages
  pub goes_on : is_stopped v ≡ false
  pub read_only : is_read_only v ≡ m.read_only
  pub tree : IsMade state m → (state (pages_of v)).device.honest ≡ true → (objects : Objects) × RepresentsTree state v objects
