-- The tags of a block up to its first erased page.
use Rattle.std.specs.Prelude.{◌≡◌, ◌≢◌, ◌<◌, ◌≤◌, ℕ, ◌+◌, ◌++◌, ◌∷◌, [], Bool, true, false, List, Option, Some, None, slice_get, Contains, Result, OnOk}
use Rattle.nand_model.specs.Flash.{Flash, Erased}
use Rattle.nand_model.specs.Calls.{Device}
use Rattle.page_tags.specs.declared.tag.Tag.{Tag}
use Rattle.flash_tree.specs.Groups.{HasTag}
use Rattle.flash_tree.specs.Newest.{Holds, Numbers}
use Rattle.flash_tree.specs.Places.{TagIs, spot_of}
use Rattle.flash_tree.specs.declared.place.Found.{Found}
use Rattle.mount_scan.specs.Blocks.{numbers_in, AreAtMost}
use Rattle.mount_scan.specs.Keys.{ThinsFound}
use Rattle.mount_scan.specs.declared.written.TagRead.{TagRead}
use Rattle.mount_scan.specs.declared.written.TagRead.TheVariants as reads
use Rattle.mount_scan.specs.declared.page_copy.PageCopy.{PageCopy}

-- the page is what was read of it
abbrev pub IsTagRead : Flash → ℕ → ℕ → TagRead → Type 0
IsTagRead flash b p reads.Erased = flash.page b p ≡ Erased
IsTagRead flash b p (reads.Written reported) = (flash.page b p ≢ Erased) × TagIs flash b p reported

-- the pages of the block before this one are not erased
abbrev pub IsWrittenUpTo : Flash → (b p : ℕ) → Type 0
IsWrittenUpTo flash b p = (l : ℕ) → l < p → flash.page b l ≢ Erased

-- What is listed of each page of a block, of so many: its tag, up to the first page that is erased, and none from there on.
pub record AreWrittenTags (flash : Flash) (b count : ℕ) (tags : List (Option Tag)) : Type 0 where
  pub end : ℕ
  pub written : IsWrittenUpTo flash b end
  pub stops : end < count → flash.page b end ≡ Erased
  pub reported : (p : ℕ) (reported : Option Tag) → p < end → slice_get tags p ≡ Some reported → TagIs flash b p reported
  pub none : (p : ℕ) (reported : Option Tag) → end ≤ p → slice_get tags p ≡ Some reported → reported ≡ None

-- of an honest device, once the call is done: this is listed of the pages of the block
abbrev pub ReadsWritten : {T E : Type 0} → Device → ℕ → List (Option Tag) → Result T E → Type 0
ReadsWritten d b tags result = d.honest ≡ true → OnOk result (AreWrittenTags d.flash b d.geometry.pages tags)

-- where a page of the block is erased, no more pages were read than those up to it
abbrev pub ReadsUpToErased : (b : ℕ) → Device → Device → Type 0
ReadsUpToErased b old new = (q : ℕ) → old.flash.page b q ≡ Erased → new.reads ≤ old.reads + (q + 1)

-- One more tag is listed, or none, and of an honest device it is that of the page; where this is erased there is none.
pub record PushesTag (device : Device) (b p : ℕ) (old new : List (Option Tag)) (erased : Bool) : Type 0 where
  pub reported : Option Tag
  pub pushed : new ≡ old ++ reported ∷ []
  pub none : erased ≡ true → reported ≡ None
  pub is_erased : device.honest ≡ true → erased ≡ true → device.flash.page b p ≡ Erased
  pub is_written : device.honest ≡ true → erased ≡ false → (device.flash.page b p ≢ Erased) × TagIs device.flash b p reported

-- The pages of a block were added: of each device places in it, and of an honest one valid pages of a good block, among which is each
-- before which no page of its block is erased.
pub record AddsWritten (device : Device) (b : ℕ) (old new : List PageCopy) : Type 0 where
  pub pages : List Found
  pub placed : (f : Found) → Contains pages f → (f.block ≡ b) × (f.page < device.geometry.pages)
  pub held : device.honest ≡ true → device.flash.bad b ≡ false → (f : Found) → Contains pages f → Holds device.flash f.tag.object f.tag.chunk (spot_of f)
  pub covers : device.honest ≡ true → (f : Found) → f.block ≡ b → Holds device.flash f.tag.object f.tag.chunk (spot_of f) → IsWrittenUpTo device.flash b f.page → Contains pages f
  pub thins : ThinsFound pages old new

-- the numbers are raised, and where the block is good not above all its tags
pub record RaisesWithin (flash : Flash) (b : ℕ) (old new : Numbers) : Type 0 where
  pub keeps : AreAtMost old new
  pub least : flash.bad b ≡ false → (m : Numbers) → AreAtMost old m → ((l : ℕ) (t : Tag) → HasTag flash b l t → AreAtMost (numbers_in t) m) → AreAtMost new m

-- of an honest device, once the call is done: they are
abbrev pub RaisesNumbersWithin : {T E : Type 0} → Device → ℕ → (old new : Numbers) → Result T E → Type 0
RaisesNumbersWithin d b old new result = d.honest ≡ true → OnOk result (RaisesWithin d.flash b old new)
