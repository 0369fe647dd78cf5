-- The tables of a device by the entries of a checkpoint.
-- From: this project.
use Rattle.std.specs.Prelude.{◌≡◌, ◌≢◌, ◌<◌, ◌≤◌, ◌^◌, ℕ, Bool, true, false, Some, slice_get}
use Rattle.nand_model.specs.Calls.{Device}
use Rattle.nand_model.specs.Flash.{Flash}
use Rattle.nand_model.specs.declared.geometry.Geometry.{Geometry}
use Rattle.page_tags.specs.declared.check.CheckEntry.{CheckEntry}
use Rattle.posix_profile.specs.State.{Objects}
use Rattle.flash_tree.specs.Checkpoints.{Checkpoint, IsChecked, IsTrueFlash}
use Rattle.flash_tree.specs.MountableFlash.{MayBeMountable}
use Rattle.flash_tree.specs.Mount.{sizes_of, IsVolume}
use Rattle.flash_tree.specs.Newest.{Spot, IsNewest, HasNewest, Numbers, AreAbove}
use Rattle.flash_tree.specs.Places.{numbers_of}
use Rattle.flash_tree.specs.Tree.{Shows, InFootprint}
use Rattle.flash_tree.specs.Truth.{IsObjectNumber}
use Rattle.flash_tree.specs.laws.Reporting.{AreNewestAt}
use Rattle.block_state.specs.TableOf.{table}
use Rattle.nand_model.specs.Trusting.{trusted_as}
use Rattle.chunk_index.specs.declared.form.CommittedPage.{CommittedPage}
use Rattle.chunk_index.specs.Maps.{committed_pages}
use Rattle.flash_log.specs.Consistency.{AreCommitted}
use Rattle.page_store.specs.KnownFirsts.{KnowsFirsts}
use Rattle.page_store.specs.declared.opening.Opened.{Opened}
use Rattle.page_store.specs.Opened.{AreLeft, IsOpenedBy, committed_at}

-- the numbers of the tags of a checkpoint
abbrev pub numbers_at : Checkpoint → Numbers
numbers_at c = record { version = c.number; group = c.number; seq = c.seq }

-- The entry of a checkpoint may list a committed page: its place is on the device, in a good block that is not the checkpoint's, its
-- object may be one of a tree, its chunk one that a tree may look up, and its version is none of a later group.
pub record MayBeCommitted (device : Device) (c : Checkpoint) (e : CheckEntry) : Type 0 where
  pub block : e.block < device.geometry.blocks
  pub page : e.page < device.geometry.pages
  pub good : device.flash.bad e.block ≡ false
  pub apart : e.block ≢ c.block
  pub object : IsObjectNumber e.object
  pub low : e.chunk < 2 ^ 32
  pub version : (1 ≤ e.version) × (e.version ≤ c.number)

-- each entry may
abbrev pub MayAllBeCommitted : Device → Checkpoint → Type 0
MayAllBeCommitted device c = (i : ℕ) (e : CheckEntry) → slice_get c.entries i ≡ Some e → MayBeCommitted device c e

-- What a mount takes for granted of a flash when it goes by a checkpoint: each entry says where the newest page of its key lies, and
-- no valid tag has a number above the checkpoint's.
pub record IsAsSaid (flash : Flash) (c : Checkpoint) : Type 0 where
  pub newest : AreNewestAt flash c.entries
  pub above : AreAbove flash (numbers_at c)

-- a device is trusted only where, if it is honest, its flash is as the checkpoint says
abbrev pub IsTrustedFor : Checkpoint → Bool → Device → Type 0
IsTrustedFor c reported device = reported ≡ true → device.honest ≡ true → IsAsSaid device.flash c

-- the device was opened by the checkpoint, and it is as it is said of one that is honest where it is trusted
abbrev pub IsOpenedFor : Device → Checkpoint → Opened → Type 0
IsOpenedFor device c opened = (reported : Bool) → IsTrustedFor c reported device
    → IsOpenedBy (Some c.block) (trusted_as reported device) (table opened.blocks) opened.index (numbers_of opened.numbers)

-- The flash shows a tree, and a mount finds it by whichever way it goes: each whole checkpoint is right, and it may go by the summaries.
pub record IsConsistent (g : Geometry) (flash : Flash) : Type 0 where
  pub truth : IsTrueFlash g flash
  pub mountable : MayBeMountable g flash
  pub spare : ℕ
  pub objects : Objects
  pub volume : IsVolume g (HasNewest flash) spare
  pub shows : Shows (sizes_of g spare) (HasNewest flash) objects

-- the device is honest and its flash true: a mount finds its tree by whichever way it goes
abbrev pub HasTrueFlash : Device → Type 0
HasTrueFlash device = (device.honest ≡ true) × IsConsistent device.geometry device.flash

-- of an honest device with no tag of a number above the checkpoint's the table knows the first pages, where numbers are left
abbrev pub KnowsFirstsBy : Device → Checkpoint → Opened → Type 0
KnowsFirstsBy device c opened = device.honest ≡ true → AreAbove device.flash (numbers_at c) → AreLeft (numbers_of opened.numbers)
    → KnowsFirsts device.flash (table opened.blocks)

-- The device shows a tree, and exactly the newest pages that are looked up to see it are committed; and the block that is noted is the only
-- one with a whole checkpoint, which is right.
pub record KeepsItsTree (device : Device) (opened : Opened) : Type 0 where
  pub spare : ℕ
  pub objects : Objects
  pub volume : IsVolume device.geometry (HasNewest device.flash) spare
  pub shows : Shows (sizes_of device.geometry spare) (HasNewest device.flash) objects
  pub newest : AreCommitted device.flash (committed_pages opened.index)
  pub all : (o c : ℕ) (s : Spot) → InFootprint (sizes_of device.geometry spare) (HasNewest device.flash) objects o c → IsNewest device.flash o c s
      → committed_pages opened.index o c ≡ Some (committed_at s)
  pub only : (o c : ℕ) (p : CommittedPage) → committed_pages opened.index o c ≡ Some p → InFootprint (sizes_of device.geometry spare) (HasNewest device.flash) objects o c
  pub checked : IsChecked device.geometry device.flash (table opened.blocks).checkpoint
