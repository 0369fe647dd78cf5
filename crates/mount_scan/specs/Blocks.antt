-- What is known of a flash whose lower blocks were scanned.
use Rattle.std.specs.Prelude.{◌≡◌, ◌↔◌, ◌<◌, ◌≤◌, ℕ, max, true, false, List, Option, Some, slice_get, Contains, ◌+◌, Result, OnOk}
use Rattle.std.specs.List.{AllPairs}
use Rattle.nand_model.specs.Flash.{Flash}
use Rattle.nand_model.specs.Calls.{Device}
use Rattle.page_tags.specs.declared.tag.Tag.{Tag}
use Rattle.flash_tree.specs.Groups.{HasTag}
use Rattle.flash_tree.specs.Newest.{Holds, Numbers}
use Rattle.flash_tree.specs.declared.place.Found.{Found}
use Rattle.flash_tree.specs.Places.{spot_of, TagIs}
use Rattle.mount_scan.specs.Scanned.{IsPlaceBefore, ArePlaced}

-- the tags of the first pages of a block
abbrev pub AreTags : Flash → ℕ → List (Option Tag) → Type 0
AreTags flash b tags = (p : ℕ) (reported : Option Tag) → slice_get tags p ≡ Some reported → TagIs flash b p reported

-- exactly the pages of blocks below b that count, in the order of places
pub record AreCountedBelow (flash : Flash) (b : ℕ) (list : List Found) : Type 0 where
  pub each : (f : Found) → Contains list f ↔ ((f.block < b) × Holds flash f.tag.object f.tag.chunk (spot_of f))
  pub order : AllPairs IsPlaceBefore list

-- What is reported of the blocks below b: of each device places in them, each once, and of an honest one exactly the pages
-- that count.
pub record ReportsBelow (device : Device) (b : ℕ) (list : List Found) : Type 0 where
  pub placed : ArePlaced b device.geometry.pages list
  pub order : AllPairs IsPlaceBefore list
  pub exact : device.honest ≡ true → AreCountedBelow device.flash b list

-- the numbers of a tag
abbrev pub numbers_in : Tag → Numbers
numbers_in t = record { version = t.version; group = t.group; seq = t.seq }

-- no number is above its other
pub record AreAtMost (m n : Numbers) : Type 0 where
  pub version : m.version ≤ n.version
  pub group : m.group ≤ n.group
  pub seq : m.seq ≤ n.seq

-- each number is the greater of its old one and that of the tag
pub record IsRaisedTo (t : Tag) (old new : Numbers) : Type 0 where
  pub version : new.version ≡ max old.version t.version
  pub group : new.group ≡ max old.group t.group
  pub seq : new.seq ≡ max old.seq t.seq

-- the least numbers that are at least these and those of the first p tags
pub record AreRaisedBy (tags : List (Option Tag)) (p : ℕ) (old new : Numbers) : Type 0 where
  pub keeps : AreAtMost old new
  pub above : (l : ℕ) (t : Tag) → l < p → slice_get tags l ≡ Some (Some t) → AreAtMost (numbers_in t) new
  pub least : (m : Numbers) → AreAtMost old m → ((l : ℕ) (t : Tag) → l < p → slice_get tags l ≡ Some (Some t) → AreAtMost (numbers_in t) m) → AreAtMost new m

-- no valid tag of a good block below b has a number above these
abbrev pub AreAboveBelow : Flash → ℕ → Numbers → Type 0
AreAboveBelow flash b n = (k l : ℕ) (t : Tag) → k < b → flash.bad k ≡ false → HasTag flash k l t → AreAtMost (numbers_in t) n

-- the greatest numbers of valid tags of good blocks below b: the least that are above them all
pub record AreGreatestBelow (flash : Flash) (b : ℕ) (n : Numbers) : Type 0 where
  pub above : AreAboveBelow flash b n
  pub least : (m : Numbers) → AreAboveBelow flash b m → AreAtMost n m

-- the least numbers that are at least these and those of all tags of a good block
pub record RaisesBy (flash : Flash) (b : ℕ) (old new : Numbers) : Type 0 where
  pub keeps : AreAtMost old new
  pub above : flash.bad b ≡ false → (l : ℕ) (t : Tag) → HasTag flash b l t → AreAtMost (numbers_in t) new
  pub least : (m : Numbers) → AreAtMost old m → (flash.bad b ≡ false → (l : ℕ) (t : Tag) → HasTag flash b l t → AreAtMost (numbers_in t) m) → AreAtMost new m

-- of an honest device: where the numbers were the greatest of the blocks below this one, they are the greatest with it
abbrev pub KeepsGreatest : {T E : Type 0} → Device → ℕ → Numbers → Numbers → Result T E → Type 0
KeepsGreatest d b old new result = d.honest ≡ true → AreGreatestBelow d.flash b old → OnOk result (AreGreatestBelow d.flash (b + 1) new)

-- of an honest device: the numbers are raised by those of the tags of the block
abbrev pub RaisesNumbers : {T E : Type 0} → Device → ℕ → Numbers → Numbers → Result T E → Type 0
RaisesNumbers d b old new result = d.honest ≡ true → OnOk result (RaisesBy d.flash b old new)
