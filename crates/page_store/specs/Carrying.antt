-- What a flash carries, what a mount by summaries finds on it, and pages that can be written to it.
use Rattle.std.specs.Prelude.{◌≡◌, ◌≢◌, ◌⊎◌, ◌<◌, ◌≤◌, ◌^◌, ℕ, true, List, length, Some, slice_get}
use Rattle.nand_model.specs.Calls.{Device}
use Rattle.nand_model.specs.Flash.{Flash}
use Rattle.flash_tree.specs.FreeBlocks.{LeavesFree}
use Rattle.flash_tree.specs.Slots.{check_object}
use Rattle.flash_tree.specs.declared.place.FreshPage.{FreshPage}
use Rattle.flash_tree.specs.declared.place.Key.{Key}
use Rattle.pages.specs.Maps.{PageMap}
use Rattle.pages.specs.Stores.{Carries, FindsAll, HasPage, IsCarried}
use Rattle.chunk_index.specs.Maps.{committed_pages}
use Rattle.chunk_index.specs.declared.index.Index.{Index}
use Rattle.transactions.specs.Checking.{LogState}
use Rattle.flash_log.specs.Mountable.{IsMountable}
use Rattle.flash_log.specs.Consistency.{AreFound, IsCommittedKey, SameData}
use Rattle.page_store.specs.Buffered.{BufferedLog, committed_map, current}
use Rattle.page_store.specs.Buffering.{Buffers}

-- The device carries the pages of the map; and a mount by summaries finds their keys, if it would have found what was committed on this log.
pub record CarriesFound (log : LogState) (x : Index) (device : Device) (spare : ℕ) (m : PageMap) : Type 0 where
  pub carried : IsCarried device spare m
  pub found : IsMountable log x → FindsAll device m

-- A device that carries the committed pages carries them still, or it carries the current ones: all of the one or all of the
-- other, with blocks enough that hold none of them. A mount by summaries finds those that it carries, if it would have found the committed ones.
abbrev pub CarriesEither : (spare : ℕ) → BufferedLog → Device → Type 0
CarriesEither spare old new = IsCarried old.log.device spare (committed_map old)
    → CarriesFound old.log old.index new spare (committed_map old) ⊎ CarriesFound old.log old.index new spare (current old)

-- the newest page of each committed key has its version and its data still, or the current pages are the newest of their keys
abbrev pub KeepsOrShows : BufferedLog → Flash → Type 0
KeepsOrShows old new = SameData (committed_pages old.index) old.log.device.flash new ⊎ Carries new (current old)

-- the device has the pages of the map, and blocks enough that hold none of them, whatever numbers are left
pub record CarriesFree (device : Device) (spare : ℕ) (m : PageMap) : Type 0 where
  pub newest : Carries device.flash m
  pub free : LeavesFree device.geometry device.flash spare (HasPage m)

-- The device has the current pages, and blocks enough that hold none of them; and a mount by summaries finds their keys, if it would have
-- found the committed ones.
pub record ShowsCurrent (spare : ℕ) (old : BufferedLog) (new : Device) : Type 0 where
  pub carries : CarriesFree new spare (current old)
  pub found : IsMountable old.log old.index → FindsAll new (current old)

-- The newest page of each committed key has its version and its data still, and blocks enough hold none of these, if they did so; and a
-- mount by summaries finds these keys still.
pub record StaysCarried (spare : ℕ) (old : BufferedLog) (new : Device) : Type 0 where
  pub same_data : SameData (committed_pages old.index) old.log.device.flash new.flash
  pub free : LeavesFree old.log.device.geometry old.log.device.flash spare (IsCommittedKey (committed_pages old.index)) → LeavesFree new.geometry new.flash spare (IsCommittedKey (committed_pages old.index))
  pub found : IsMountable old.log old.index → AreFound new.geometry new.flash (committed_pages old.index)

-- so it is with the committed pages, or the device carries the current ones
abbrev pub StaysOrShows : (spare : ℕ) → BufferedLog → Device → Type 0
StaysOrShows spare old new = StaysCarried spare old new ⊎ ShowsCurrent spare old new

-- each page is of an object from 1 on, and on an honest device not of that of checkpoints
abbrev pub AreNumbered : Device → List FreshPage → Type 0
AreNumbered device pages = (i : ℕ) (p : FreshPage) → slice_get pages i ≡ Some p → (1 ≤ p.key.object) × (device.honest ≡ true → p.key.object ≢ check_object)

-- fewer than 2^32 pages, each of the size of the device's pages and of a number that an object may have
pub record AreWritable (device : Device) (pages : List FreshPage) : Type 0 where
  pub within_limit : length pages < 2 ^ 32
  pub numbered : AreNumbered device pages
  pub size : (i : ℕ) (p : FreshPage) → slice_get pages i ≡ Some p → length p.bytes.items ≡ device.geometry.bytes

-- the numbers of a key are of 64 bits
pub record HasRanges (k : Key) : Type 0 where
  pub object : k.object < 2 ^ 64
  pub chunk : k.chunk < 2 ^ 64

-- and of the key of each page
abbrev pub HaveRanges : List FreshPage → Type 0
HaveRanges pages = (i : ℕ) (p : FreshPage) → slice_get pages i ≡ Some p → HasRanges p.key

-- the buffer has the pages that are current and not committed, and each can be written
pub record CanWriteBuffer (held : BufferedLog) : Type 0 where
  pub buffers : Buffers held.index held.pages
  pub pages : AreWritable held.log.device held.pages

-- On the device lies what was committed, or all that was current, with blocks enough free of it; and each key of it has either data.
pub record CarriesOrShows (spare : ℕ) (held : BufferedLog) (device : Device) : Type 0 where
  pub newest : CarriesEither spare held device
  pub shows : KeepsOrShows held device.flash
