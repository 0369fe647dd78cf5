-- What a scan reports on a flash.
use Rattle.std.specs.Prelude.{◌≡◌, ◌⊎◌, ◌↔◌, ◌<◌, ◌≤◌, ◌^◌, ℕ, ◌+◌, true, false, List, map, sum, Result, Ok, Err, OnOk, All, Contains, if◌then◌else◌}
use Rattle.std.specs.List.{AllPairs, range_with_len}
use Rattle.nand_model.specs.Flash.{Flash, Written}
use Rattle.nand_model.specs.Calls.{Device}
use Rattle.nand_model.specs.Changes.{OnlyReads}
use Rattle.flash_tree.specs.Newest.{Spot, Holds, IsNewest}
use Rattle.flash_tree.specs.declared.place.Found.{Found}
use Rattle.flash_tree.specs.Places.{spot_of}
use Rattle.mount_scan.specs.Copies.{copy_at}
use Rattle.mount_scan.specs.Keys.{HaveOtherKeys}
use Rattle.mount_scan.specs.declared.page_copy.PageCopy.{PageCopy}
use Rattle.mount_scan.specs.declared.fault.ScanFault.{ScanFault}
use Rattle.mount_scan.specs.declared.fault.ScanFault.TheVariants as faults

-- one place comes before another: by block, then by page
abbrev pub IsPlaceBefore : Found → Found → Type 0
IsPlaceBefore f g = (f.block < g.block) ⊎ ((f.block ≡ g.block) × (f.page < g.page))

-- exactly the pages that count, in the strict order of their places, so that none is there twice
pub record AreCounted (flash : Flash) (list : List Found) : Type 0 where
  pub each : (s : Spot) → Holds flash s.tag.object s.tag.chunk s ↔ Contains (map spot_of list) s
  pub order : AllPairs IsPlaceBefore list

-- the page of a copy is the newest of its key
pub record IsNewestCopy (flash : Flash) (x : PageCopy) : Type 0 where
  pub spot : Spot
  pub newest : IsNewest flash x.object x.chunk spot
  pub copied : copy_at spot ≡ x

-- the list has a copy of a page of chunk c of object o
abbrev pub HasCopyOf : List PageCopy → (o c : ℕ) → Type 0
HasCopyOf list o c = (x : PageCopy) × Contains list x × (x.object ≡ o) × (x.chunk ≡ c)

-- and the page has these data
abbrev pub HasCopyWith : Flash → List PageCopy → (o c : ℕ) → List ℕ → Type 0
HasCopyWith flash list o c bytes = (x : PageCopy) × Contains list x × (x.object ≡ o) × (x.chunk ≡ c) × (spare : List ℕ) × (flash.page x.block x.page ≡ Written bytes spare)

-- exactly the copies of the newest pages of all keys of chunks that a tree may look up, in which each key is there once
pub record AreNewest (flash : Flash) (list : List PageCopy) : Type 0 where
  pub each : (o c : ℕ) (s : Spot) → c < 2 ^ 32 → IsNewest flash o c s → Contains list (copy_at s)
  pub only : (x : PageCopy) → Contains list x → IsNewestCopy flash x
  pub order : AllPairs HaveOtherKeys list

-- all places are on a device of so many blocks of so many pages
abbrev pub ArePlaced : (blocks pages : ℕ) → List Found → Type 0
ArePlaced blocks pages = All (λ f. (f.block < blocks) × (f.page < pages))

-- and the places of all copies
abbrev pub AreCopiesPlaced : (blocks pages : ℕ) → List PageCopy → Type 0
AreCopiesPlaced blocks pages = All (λ f. (f.block < blocks) × (f.page < pages))

-- What is reported of the pages that count: of each device places on it, each once, and of an honest one exactly those.
pub record ReportsCounted (device : Device) (list : List Found) : Type 0 where
  pub placed : ArePlaced device.geometry.blocks device.geometry.pages list
  pub order : AllPairs IsPlaceBefore list
  pub exact : device.honest ≡ true → AreCounted device.flash list

-- What is reported of the newest pages: of each device places on it, each key once, of chunks that a tree may look up, and of an honest
-- one exactly those.
pub record ListsNewest (device : Device) (list : List PageCopy) : Type 0 where
  pub placed : AreCopiesPlaced device.geometry.blocks device.geometry.pages list
  pub low : All (λ (f : PageCopy). f.chunk < 2 ^ 32) list
  pub order : AllPairs HaveOtherKeys list
  pub exact : device.honest ≡ true → AreNewest device.flash list

-- how many pages the good ones of the first b blocks have
abbrev pub good_pages : Flash → (pages b : ℕ) → ℕ
good_pages flash pages b = sum (map (λ k. if flash.bad k then 0 else pages) (range_with_len 0 b))

-- Gone is reported of a device that is gone, and of one that went in the call nothing else is.
abbrev pub ScanReportsGone : {T : Type 0} → Device → Device → Result T ScanFault → Type 0
ScanReportsGone old new (Ok done) = old.gone ≡ false → new.gone ≡ false
ScanReportsGone old new (Err faults.NoMemory) = old.gone ≡ false → new.gone ≡ false
ScanReportsGone old new (Err faults.Gone) = new.gone ≡ true

-- The device was only read, and so many pages were: no more, and no fewer where the call is done.
pub record ReadsEach {T : Type 0} (pages : ℕ) (old new : Device) (result : Result T ScanFault) : Type 0 where
  pub only : OnlyReads old new
  pub most : new.reads ≤ old.reads + pages
  pub each : OnOk result (new.reads ≡ old.reads + pages)
  pub gone : ScanReportsGone old new result

-- each tag of a block is read once at most, and none of a bad one
abbrev pub ReadsBlock : {T : Type 0} → ℕ → Device → Device → Result T ScanFault → Type 0
ReadsBlock b old new result = ReadsEach (if old.flash.bad b then 0 else old.geometry.pages) old new result

-- and so of all blocks
abbrev pub ReadsBlocks : {T : Type 0} → Device → Device → Result T ScanFault → Type 0
ReadsBlocks old new result = ReadsEach (good_pages old.flash old.geometry.pages old.geometry.blocks) old new result
