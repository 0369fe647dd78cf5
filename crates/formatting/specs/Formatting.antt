-- What the formatting of a device does on its way.
use Rattle.std.specs.Prelude.{◌≡◌, ◌≢◌, ◌⊎◌, ◌≤◌, ◌<◌, ℕ, ◌+◌, ◌-◌, true, false, Some, Result, Ok, Err, List}
use Rattle.nand_model.specs.Flash.{Flash, Erased, Written}
use Rattle.nand_model.specs.Calls.{Device, Lasts}
use Rattle.page_tags.specs.declared.tag.Tag.{Tag}
use Rattle.page_tags.specs.Tags.{tag_bytes}
use Rattle.page_tags.specs.Headers.{header_bytes}
use Rattle.volume_terms.specs.Sizes.{root_number}
use Rattle.flash_tree.specs.Checkpoints.{IsTrueFlash}
use Rattle.flash_tree.specs.Mount.{bad_blocks}
use Rattle.flash_tree.specs.Sound.{IsSoundFlash}
use Rattle.posix_profile.specs.laws.Fresh.{fresh}
use Rattle.flash_tree.specs.MountableFlash.{IsMountableFlash}
use Rattle.flash_tree.specs.declared.place.Key.{Key}
use Rattle.flash_tree.specs.declared.place.FreshPage.{FreshPage}
use Rattle.directories.specs.Heads.{fields_in}
use Rattle.directories.specs.declared.head.DirectoryHead.{DirectoryHead}
use Rattle.formatting.specs.declared.fault.FormatFault.{FormatFault}
use Rattle.formatting.specs.declared.fault.FormatFault.TheVariants as faults
use Rattle.formatting.specs.declared.root.Attempt.{Attempt}
use Rattle.formatting.specs.declared.root.Attempt.TheVariants as attempts

-- What each step keeps: what every call keeps, the pages of blocks that were bad, and that each block that becomes bad failed.
pub record Keeps (old new : Device) : Type 0 where
  pub lasts : Lasts old new
  pub bad_pages : old.honest ≡ true → (b p : ℕ) → old.flash.bad b ≡ true → new.flash.page b p ≡ old.flash.page b p
  pub new_bad : bad_blocks old.geometry new.flash ≤ bad_blocks old.geometry old.flash + (new.failures - old.failures)

-- each failure that there was between marked one block: as many more blocks are bad as there were failures
abbrev pub EachFailureMarks : Device → Device → Type 0
EachFailureMarks old new = bad_blocks old.geometry new.flash + old.failures ≡ bad_blocks old.geometry old.flash + new.failures

-- the block is bad, or its first page can be programmed, and so all its pages are erased
abbrev pub IsClear : Flash → ℕ → Type 0
IsClear flash b = flash.bad b ≡ false → flash.next b ≡ Some 0

-- every block from this one on is ready
abbrev pub AreClear : Device → ℕ → Type 0
AreClear device first = (b : ℕ) → first ≤ b → b < device.geometry.blocks → IsClear device.flash b

-- mark and next page of every block but this one are as they were
abbrev pub OthersStay : ℕ → Flash → Flash → Type 0
OthersStay b old new = (k : ℕ) → k ≢ b → (new.bad k ≡ old.bad k) × (new.next k ≡ old.next k)

-- the tag of the page of a key that is a group of its own, with this number throughout
abbrev pub single_tag : Key → ℕ → Tag
single_tag key number = record { index = 0; count = 1; object = key.object; chunk = key.chunk; version = number; group = number; seq = number }

-- the block is good, and its first page alone was programmed; of an honest device that page is known
pub record HasFirstPage (device : Device) (b : ℕ) (bytes : List ℕ) (tag : Tag) : Type 0 where
  pub good : device.flash.bad b ≡ false
  pub next : device.flash.next b ≡ Some 1
  pub page : device.honest ≡ true → device.flash.page b 0 ≡ Written bytes (tag_bytes tag)

-- the page is at the start of a good block, and every other page of good blocks is erased
pub record LiesAlone (flash : Flash) (bytes : List ℕ) (tag : Tag) : Type 0 where
  pub block : ℕ
  pub good : flash.bad block ≡ false
  pub page : flash.page block 0 ≡ Written bytes (tag_bytes tag)
  pub others : (k l : ℕ) → flash.bad k ≡ false → (k ≢ block) ⊎ (l ≢ 0) → flash.page k l ≡ Erased

-- the block has the page, or it failed and is marked bad
abbrev pub Takes : Device → Device → ℕ → List ℕ → Tag → Attempt → Type 0
Takes old new b bytes tag attempts.Written = HasFirstPage new b bytes tag × (new.failures ≡ old.failures) × (new.gone ≡ false)
Takes old new b bytes tag attempts.Failed = (new.flash.bad b ≡ true) × (new.failures ≡ old.failures + 1)

-- the page is the only one, and its number is one more than the count of the blocks that failed before one took it
pub record WritesFirst (old new : Device) (page : FreshPage) : Type 0 where
  pub alone : old.honest ≡ true → LiesAlone new.flash page.bytes.items (single_tag page.key (1 + (new.failures - old.failures)))
  pub within_limit : new.failures < old.failures + old.geometry.blocks
  pub has_power : new.gone ≡ false

-- the page is the only one of the device, with a number from 1 to the count of blocks
pub record HoldsOnly (device : Device) (page : FreshPage) : Type 0 where
  pub number : ℕ
  pub some : 1 ≤ number
  pub within_limit : number ≤ device.geometry.blocks
  pub alone : device.honest ≡ true → LiesAlone device.flash page.bytes.items (single_tag page.key number)
  pub has_power : device.gone ≡ false

-- what the root's header says in an empty volume with so many spare blocks: a directory without entries, of moment 0
abbrev pub empty_root : ℕ → DirectoryHead
empty_root spare = record { spare = spare; length = 0; moment = 0 }

-- the key of the root's header
abbrev pub root_key : Key
root_key = record { object = root_number; chunk = 0 }

-- The flash holds nothing but an empty volume with so many spare blocks: the root's header is at the start of a good block,
-- as a group of its own with a number from 1 to the count of blocks, and every other page of good blocks is erased.
pub record HoldsOnlyRoot (spare : ℕ) (device : Device) : Type 0 where
  pub number : ℕ
  pub some : 1 ≤ number
  pub within_limit : number ≤ device.geometry.blocks
  pub alone : LiesAlone device.flash (header_bytes (fields_in device.geometry.bytes (empty_root spare))) (single_tag root_key number)

-- Each whole checkpoint on the device is right, and a mount may go by the summaries there.
pub record StartsTrue (device : Device) : Type 0 where
  pub checkpoints : IsTrueFlash device.geometry device.flash
  pub mountable : IsMountableFlash device.geometry device.flash

-- What a device is that was formatted with so many spare blocks: its flash is sound and shows the empty root, it holds nothing else,
-- and a mount may go by it.
pub record IsFormatted (spare : ℕ) (device : Device) : Type 0 where
  pub sound : IsSoundFlash device.geometry device.flash spare fresh.objects
  pub alone : HoldsOnlyRoot spare device
  pub starts : StartsTrue device

-- what a fault says of the device, where it is neither of the spare blocks nor of memory
abbrev pub Explains : ℕ → Device → FormatFault → Type 0
Explains spare new faults.Spare = ⊥
Explains spare new faults.NoMemory = ⊥
Explains spare new faults.Worn = spare < bad_blocks new.geometry new.flash
Explains spare new faults.Gone = new.gone ≡ true

-- the device, which is given back in any case
abbrev pub given_back : {D : Type 0} → Result D (D × FormatFault) → D
given_back (Ok device) = device
given_back (Err back) = back.0
