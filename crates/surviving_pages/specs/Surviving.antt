-- Which pages of a flash survive where other pages of their groups were lost, and which are lost.
-- From: the format: tags, `FORMATS.md`. The pages of a block are programmed in order, so a group is complete once its last page is written.
use Rattle.std.specs.Prelude.{◌≡◌, ◌≤◌, ℕ, ◌+◌, ◌-◌, false, List, true, Result, OnOk}
use Rattle.nand_model.specs.Flash.{Flash, Written}
use Rattle.page_tags.specs.declared.tag.Tag.{Tag}
use Rattle.page_tags.specs.Tags.{tag_bytes}
use Rattle.flash_tree.specs.Groups.{HasTag}
use Rattle.flash_tree.specs.Newest.{Spot, Holds, IsAfter}
use Rattle.nand_model.specs.Calls.{Device}
use Rattle.mount_scan.specs.declared.page_copy.PageCopy.{PageCopy}
use Rattle.surviving_pages.specs.Latest.{HasLatestBelow}

-- a page with a valid tag lies in the block, at this page or behind it
pub record IsWrittenFrom (flash : Flash) (b p : ℕ) : Type 0 where
  pub page : ℕ
  pub from : p ≤ page
  pub tag : Tag
  pub has : HasTag flash b page tag

-- the page is lost: it lies in a good block, has no valid tag, and a page with one lies behind it
pub record IsLost (flash : Flash) (b p : ℕ) : Type 0 where
  pub good : flash.bad b ≡ false
  pub none : (t : Tag) → HasTag flash b p t → ⊥
  pub behind : IsWrittenFrom flash b (p + 1)

-- where the last page of the group lies that the tag of a page names
abbrev pub last_page : Spot → ℕ
last_page s = s.page + (s.tag.count - 1 - s.tag.index)

-- The page survives, and is of the key of object o and chunk c: it lies in a good block with a valid tag, and its group was completed,
-- since the last page of the group or one behind it is written.
pub record Survives (flash : Flash) (o c : ℕ) (s : Spot) : Type 0 where
  pub good : flash.bad s.block ≡ false
  pub has : HasTag flash s.block s.page s.tag
  pub object : s.tag.object ≡ o
  pub chunk : s.tag.chunk ≡ c
  pub completed : IsWrittenFrom flash s.block (last_page s)

-- the page survives, and is of the key that its tag names
abbrev pub IsSurvivor : Flash → Spot → Type 0
IsSurvivor flash s = Survives flash s.tag.object s.tag.chunk s

-- the newest of the pages of a key that survive: none of them comes after it
pub record IsNewestSurvivor (flash : Flash) (o c : ℕ) (s : Spot) : Type 0 where
  pub survives : Survives flash o c s
  pub last : (t : Spot) → Survives flash o c t → IsAfter t s → ⊥

-- the newest of the pages of a key that survive has this data
pub record HasSurvivor (flash : Flash) (o c : ℕ) (bytes : List ℕ) : Type 0 where
  pub spot : Spot
  pub newest : IsNewestSurvivor flash o c spot
  pub stored : flash.page spot.block spot.page ≡ Written bytes (tag_bytes spot.tag)

-- no page of a completed group is lost: each page that survives is valid
abbrev pub HasLostNothing : Flash → Type 0
HasLostNothing flash = (s : Spot) → Survives flash s.tag.object s.tag.chunk s → Holds flash s.tag.object s.tag.chunk s

-- of an honest device: where the newest of the surviving pages below this block were listed, so are they with it
abbrev pub KeepsSurvivors : {T E : Type 0} → Device → ℕ → List PageCopy → List PageCopy → Result T E → Type 0
KeepsSurvivors d b old new result = d.honest ≡ true → HasLatestBelow (IsSurvivor d.flash) b old → OnOk result (HasLatestBelow (IsSurvivor d.flash) (b + 1) new)
