-- The writing of the checkpoint of a store that is given up, in the words of its pages.
-- From: this project.
use Rattle.std.specs.Prelude.{◌≡◌, ◌⊎◌, ◌<◌, ◌≤◌, ◌+◌, ℕ, true, false, Some, None, Result, Ok, Err, OnOk}
use Rattle.nand_model.specs.Calls.{Device, Lasts}
use Rattle.posix_profile.specs.State.{Objects}
use Rattle.flash_tree.specs.Checkpoints.{Checkpoint, IsChecked, IsWhole}
use Rattle.flash_tree.specs.Mount.{sizes_of, IsVolume}
use Rattle.flash_tree.specs.Newest.{HasNewest}
use Rattle.flash_tree.specs.Truth.{KeepsSummaries}
use Rattle.flash_tree.specs.Tree.{Shows, InFootprint}
use Rattle.pages.specs.State.{PagesState}
use Rattle.pages.specs.Stores.{HandsOutNumbers, HasFailed, HasNumbersLeft, HasPage, CommittedAs, StaysMountable, StaysSame, bad_on}
use Rattle.flash_log.specs.declared.seal_fault.SealFault.{SealFault}
use Rattle.flash_log.specs.declared.seal_fault.SealFault.TheVariants as causes
use Rattle.volume_terms.specs.declared.fault.StoreFault.{StoreFault}
use Rattle.volume_terms.specs.declared.fault.StoreFault.TheVariants as faults

-- The flash shows a tree, and a key has a committed page exactly where it is looked up to see it.
pub record KeepsTree (p : PagesState) (tree : Objects) : Type 0 where
  pub volume : IsVolume p.device.geometry (HasNewest p.device.flash) p.spare
  pub shows : Shows (sizes_of p.device.geometry p.spare) (HasNewest p.device.flash) tree
  pub all : (o c : ℕ) → InFootprint (sizes_of p.device.geometry p.spare) (HasNewest p.device.flash) tree o c → HasPage p.committed o c
  pub only : (o c : ℕ) → HasPage p.committed o c → InFootprint (sizes_of p.device.geometry p.spare) (HasNewest p.device.flash) tree o c

-- a sound store of an honest device keeps the pages of a tree, and no others
abbrev pub IsExact : PagesState → Type 0
IsExact p = p.sound ≡ true → p.device.honest ≡ true → (tree : Objects) × KeepsTree p tree

-- What a store keeps that is given up: what every call of a store keeps, but that a block may come to be noted.
pub record EndsOn (old new : PagesState) : Type 0 where
  pub page_bytes : new.page_bytes ≡ old.page_bytes
  pub most : new.most ≡ old.most
  pub spare : new.spare ≡ old.spare
  pub worn : new.worn ≡ old.worn
  pub refused : old.refused ≤ new.refused
  pub commits : old.commits ≤ new.commits
  pub failed : old.failed ≡ true → new.failed ≡ true
  pub device : Lasts old.device new.device
  pub numbers : HandsOutNumbers old.device new.device old.next new.next
  pub marks : bad_on new.device + old.device.failures ≤ bad_on old.device + new.device.failures
  pub limits : old.device.honest ≡ true → HasNumbersLeft old.device.flash → HasNumbersLeft new.device.flash
  pub summaries : old.device.honest ≡ true → KeepsSummaries old.device new.device
  pub mountable : StaysMountable old new

-- If each whole checkpoint of an honest device was right and in the block that was noted, each is right and in the one that is now.
abbrev pub StaysRight : PagesState → PagesState → Type 0
StaysRight old new = old.device.honest ≡ true
    → IsChecked old.device.geometry old.device.flash old.checkpoint → IsChecked new.device.geometry new.device.flash new.checkpoint

-- the block noted has a checkpoint, which is whole on an honest device
pub record HasWhole (p : PagesState) : Type 0 where
  pub checkpoint : Checkpoint
  pub noted : p.checkpoint ≡ Some checkpoint.block
  pub whole : p.device.honest ≡ true → IsWhole p.device.geometry p.device.flash checkpoint

-- a whole checkpoint is there; or the device had a failure, and no block is noted
abbrev pub LeavesOne : PagesState → PagesState → Type 0
LeavesOne old new = HasWhole new ⊎ ((new.checkpoint ≡ None) × (old.device.failures < new.device.failures))

-- How it ends. After Ok nothing was done where no checkpoint was due, and else one is there, or it failed, and the device has power. With
-- Worn more blocks are bad than there are to spare; else the device is gone or not honest, or the store was not sound.
abbrev pub SealEnds : (due : Type 0) → PagesState → PagesState → Result (Unit {0}) StoreFault → Type 0
SealEnds due old new (Ok done) = ((due → ⊥) × StaysSame old new) ⊎ (due × (new.device.gone ≡ false) × LeavesOne old new)
SealEnds due old new (Err faults.NoMemory) = ⊥
SealEnds due old new (Err faults.Device) = HasFailed new.device ⊎ (old.sound ≡ false)
SealEnds due old new (Err faults.Worn) = new.spare < bad_on new.device

-- A store gave its device back, and a checkpoint was written where one was due: what became of its pages, of which those that were
-- committed are so still; that checkpoints stay right where it committed the pages of a tree and no others; that it was done only with no more bad
-- blocks than there are to spare, where there were no more before; and how that ended.
pub record IsSealed (due : Type 0) (old : PagesState) (device : Device) (result : Result (Unit {0}) StoreFault) : Type 0 where
  pub pages : PagesState
  pub device_is : pages.device ≡ device
  pub ends_on : EndsOn old pages
  pub checked : IsExact old → StaysRight old pages
  pub committed : old.sound ≡ true → CommittedAs pages old.committed
  pub within_limit : bad_on old.device ≤ old.spare → OnOk result (bad_on pages.device ≤ pages.spare)
  pub ends : SealEnds due old pages result

-- what a fault of the writing is to those above
abbrev pub seal_fault_of : SealFault → StoreFault
seal_fault_of causes.Worn = faults.Worn
seal_fault_of causes.Lost = faults.Device
seal_fault_of causes.Gone = faults.Device
