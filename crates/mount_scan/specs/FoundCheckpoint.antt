-- What a search for a checkpoint finds.
use Rattle.std.specs.Prelude.{◌≡◌, ◌<◌, ◌≤◌, ℕ, ◌+◌, ◌*◌, true, false, length, All, AllPairs, Result}
use Rattle.volume_terms.specs.Rounding.{ceiling}
use Rattle.nand_model.specs.Calls.{Device}
use Rattle.nand_model.specs.Changes.{OnlyReads}
use Rattle.page_tags.specs.Tags.{IsTag}
use Rattle.page_tags.specs.Checks.{IsCheckEntry, IsEntryBefore}
use Rattle.flash_tree.specs.Checkpoints.{Checkpoint, check_tag, IsWhole, IsTrueFlash}
use Rattle.mount_scan.specs.Scanned.{ScanReportsGone}
use Rattle.mount_scan.specs.declared.fault.ScanFault.{ScanFault}
use Rattle.mount_scan.specs.declared.found_checkpoint.FoundCheckpoint.{FoundCheckpoint}

-- a checkpoint as programs have it
abbrev pub checkpoint_of : FoundCheckpoint → Checkpoint
checkpoint_of f = record { block = f.block; size = f.size; number = f.number; seq = f.seq; entries = f.entries.items }

-- What holds of a checkpoint that is found on any device: it lies in a good block of the device and has room in it, its first tag is
-- valid, its pages are as many as its entries take, and these are in range and rise.
pub record HasForm (device : Device) (c : Checkpoint) : Type 0 where
  pub block : c.block < device.geometry.blocks
  pub good : device.flash.bad c.block ≡ false
  pub room : c.size ≤ device.geometry.pages
  pub tag : IsTag (check_tag c 0)
  pub size : c.size ≡ ceiling (32 * (1 + length c.entries)) device.geometry.bytes
  pub entries : All IsCheckEntry c.entries
  pub rise : AllPairs IsEntryBefore c.entries

-- The device was only read, no more pages than so many were, and Gone is reported of a gone device alone.
pub record ReadsAtMost {T : Type 0} (pages : ℕ) (old new : Device) (result : Result T ScanFault) : Type 0 where
  pub only : OnlyReads old new
  pub most : new.reads ≤ old.reads + pages
  pub gone : ScanReportsGone old new result

-- of an honest device: the checkpoint is whole
abbrev pub IsWholeOn : Device → Checkpoint → Type 0
IsWholeOn device c = device.honest ≡ true → IsWhole device.geometry device.flash c

-- of an honest device with a true flash: no checkpoint is whole
abbrev pub HasNoneWhole : Device → Type 0
HasNoneWhole device = device.honest ≡ true → IsTrueFlash device.geometry device.flash → (c : Checkpoint) → IsWhole device.geometry device.flash c → ⊥

-- Of an honest device with a true flash: where a checkpoint is whole, a page of each block and those of the checkpoint were read, at
-- most.
abbrev pub ReadsFew : Device → Device → Type 0
ReadsFew old new =
    old.honest ≡ true → IsTrueFlash old.geometry old.flash → (c : Checkpoint) → IsWhole old.geometry old.flash c → new.reads ≤ old.reads + old.geometry.blocks + c.size
