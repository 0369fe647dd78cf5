-- The pages of a device that is mounted.
-- From: this project.
use Rattle.std.specs.Prelude.{◌≡◌, ◌⊎◌, ◌<◌, ◌≤◌, ◌/◌, ℕ, true, false, Some}
use Rattle.volume_terms.specs.Sizes.{number_end}
use Rattle.nand_model.specs.Flash.{Flash}
use Rattle.nand_model.specs.Calls.{Device}
use Rattle.block_state.specs.Table.{Table}
use Rattle.flash_tree.specs.Newest.{Numbers, AreGreatest}
use Rattle.flash_tree.specs.Mount.{Answers, IsTreeOf}
use Rattle.flash_tree.specs.MountableFlash.{IsMountableFlash}
use Rattle.chunk_index.specs.declared.index.Index.{Index}
use Rattle.transactions.specs.Checking.{log_of}
use Rattle.flash_log.specs.Mountable.{IsMountable}
use Rattle.page_store.specs.ReadOnly.{next_after}
use Rattle.name_index.specs.declared.index.NameIndex.{NameIndex}
use Rattle.object_store.specs.Stores.{CanHave}
use Rattle.object_store.specs.Stores.{settled}
use Rattle.object_store.specs.Reported.{table_sizes, Reports}
use Rattle.object_store.specs.declared.table.ObjectTable.{ObjectTable}
use Rattle.page_store.specs.Shown.{committed_data}
use Rattle.pages.specs.State.{PagesState, NextNumbers}
use Rattle.pages.specs.Stores.{BeganMountably, IsOrdered, bad_on, SamePages, CommittedAs}
use Rattle.paged_objects.specs.Representing.{volume_of, PagesRepresent, Shown}
use Rattle.posix_profile.specs.State.{Objects}
use Rattle.page_store.specs.Opened.{AreLeft}
use Rattle.tree_walk.specs.Covering.{CoversObjects}

-- groups can be written: there are numbers left, and no more blocks are bad than there are to spare
abbrev pub CanBeWritten : Device → Numbers → (spare : ℕ) → Type 0
CanBeWritten device n spare = AreLeft n × (bad_on device ≤ spare)

-- where a mount can go by the summaries of an honest device's flash, so can the next one by those of a log of these tables
abbrev pub LeavesMountable : Device → Table → Index → Type 0
LeavesMountable device t x = IsMountableFlash device.geometry device.flash → device.honest ≡ true → IsMountable (log_of device t) x

-- Groups can be written, and a log of these tables lets the next mount go by summaries where this one could.
pub record MayWrite (device : Device) (t : Table) (x : Index) (n : Numbers) (spare : ℕ) : Type 0 where
  pub can : CanBeWritten device n spare
  pub mountable : LeavesMountable device t x

-- Pages that can be written remember the flash of the device; and if a mount could go by its summaries, its blocks are in order.
pub record Remembers (device : Device) (p : PagesState) : Type 0 where
  pub first : p.worn ≡ false → p.first ≡ Some device.flash
  pub ordered : p.worn ≡ false → BeganMountably p → ∥ IsOrdered p ∥₁

-- The pages are those that the index keeps on the device, which is as it was. They are present, and the device keeps them. Its flash is
-- remembered.
pub record ArePagesOn (device : Device) (x : Index) (n : Numbers) (spare : ℕ) (p : PagesState) : Type 0 where
  pub device_is : p.device ≡ device
  pub spare_is : p.spare ≡ spare
  pub page_bytes : p.page_bytes ≡ device.geometry.bytes
  pub most : p.most ≡ device.geometry.pages / 4
  pub next : p.next ≡ next_after n
  pub sound : device.honest ≡ true → p.sound ≡ true
  pub present : device.honest ≡ true → SamePages p.present (committed_data x device.flash)
  pub committed : device.honest ≡ true → CommittedAs p (committed_data x device.flash)
  pub remembers : Remembers device p

-- nothing can be written: more blocks are bad than there are to spare, or a number of 2^62 or more is on the device
abbrev pub CanOnlyBeRead : PagesState → Type 0
CanOnlyBeRead p = (p.spare < bad_on p.device) ⊎ (number_end < p.next.group) ⊎ (number_end < p.next.seq)

-- the next numbers are one above the greatest that are on the flash
abbrev pub AreNext : Flash → NextNumbers → Type 0
AreNext flash next = (n : Numbers) × AreGreatest flash n × (next ≡ next_after n)

-- What a mount gives has the sizes of the volume, and a change has at most as many pages as a quarter of a block.
pub record HasSizes (p : PagesState) (table : ObjectTable) : Type 0 where
  pub page_bytes : p.page_bytes ≡ p.device.geometry.bytes
  pub most : p.most ≡ p.device.geometry.pages / 4
  pub volume : table_sizes table ≡ volume_of p

-- These objects are the tree that the device shows: the pages hold them, a mount would show them again, the table reports on
-- them, and the index has the hashes of their names.
pub record IsMountedWith (p : PagesState) (table : ObjectTable) (names : NameIndex) (objects : Objects) : Type 0 where
  pub answers : Answers p.device.geometry p.device.flash (IsTreeOf p.spare objects)
  pub represents : PagesRepresent (volume_of p) p objects
  pub shown : Shown (volume_of p) p objects
  pub can : CanHave (volume_of p) objects
  pub settles : settled objects ≡ objects
  pub reports : Reports table objects
  pub covers : CoversObjects names (volume_of p) p.present objects
