-- What a search knows of the pages that it has seen.
use Rattle.std.specs.Prelude.{◌≡◌, ◌⊎◌, ◌<◌, ◌≤◌, ℕ, max, false, Option, Some, None}
use Rattle.nand_model.specs.Flash.{Flash}
use Rattle.page_tags.specs.declared.tag.Tag.{Tag}
use Rattle.flash_tree.specs.Groups.{HasTag}
use Rattle.flash_tree.specs.Newest.{Spot, Holds, IsAfter, Numbers}
use Rattle.flash_tree.specs.declared.place.Found.{Found}
use Rattle.flash_tree.specs.Places.{spot_of}

-- a tag is the one of page i of the group that another tag names
pub record IsPartTag (tag member : Tag) (i : ℕ) : Type 0 where
  pub index : tag.index ≡ i
  pub count : tag.count ≡ member.count
  pub group : tag.group ≡ member.group
  pub seq : tag.seq ≡ member.seq

-- what a page was answers to hold of the key of object o and chunk c: with none it holds nothing of it
abbrev pub IsHeldAt : Flash → (o c b p : ℕ) → Option Found → Type 0
IsHeldAt flash o c b p None = (s : Spot) → s.block ≡ b → s.page ≡ p → Holds flash o c s → ⊥
IsHeldAt flash o c b p (Some f) = (f.block ≡ b) × (f.page ≡ p) × Holds flash o c (spot_of f)

-- the place stands before page p of block b, by block and then by page
abbrev pub IsBefore : (b p : ℕ) → (block page : ℕ) → Type 0
IsBefore b p block page = (block < b) ⊎ ((block ≡ b) × (page < p))

-- The newest page of the key among those before page p of block b: it counts, and none of these comes after it. With
-- none, none of these counts.
abbrev pub IsBest : Flash → (o c b p : ℕ) → Option Found → Type 0
IsBest flash o c b p None = (t : Spot) → IsBefore b p t.block t.page → Holds flash o c t → ⊥
IsBest flash o c b p (Some f) = Holds flash o c (spot_of f) × ((t : Spot) → IsBefore b p t.block t.page → Holds flash o c t → IsAfter t (spot_of f) → ⊥)

-- one page takes the place of the best before it: it comes after it, or there is none
abbrev pub IsBetter : Found → Option Found → Type 0
IsBetter f None = Unit {0}
IsBetter f (Some best) = IsAfter (spot_of f) (spot_of best)

-- where something was found, it is on a device of so many blocks of so many pages
abbrev pub IsPlaced : (blocks pages : ℕ) → Option Found → Type 0
IsPlaced blocks pages None = Unit {0}
IsPlaced blocks pages (Some f) = (f.block < blocks) × (f.page < pages)

-- no valid tag of a good block before page p of block b has a number above these
abbrev pub AreAboveBefore : Flash → (b p : ℕ) → Numbers → Type 0
AreAboveBefore flash b p n = (k l : ℕ) (t : Tag) → IsBefore b p k l → flash.bad k ≡ false → HasTag flash k l t
    → (t.version ≤ n.version) × (t.group ≤ n.group) × (t.seq ≤ n.seq)

-- of each two numbers the greater
pub record AreRaised (old : Numbers) (t : Tag) (new : Numbers) : Type 0 where
  pub version : new.version ≡ max old.version t.version
  pub group : new.group ≡ max old.group t.group
  pub seq : new.seq ≡ max old.seq t.seq

-- the greatest numbers of valid tags of good blocks before page p of block b: the least that are above them all
pub record AreGreatestBefore (flash : Flash) (b p : ℕ) (n : Numbers) : Type 0 where
  pub above : AreAboveBefore flash b p n
  pub least : (m : Numbers) → AreAboveBefore flash b p m → (n.version ≤ m.version) × (n.group ≤ m.group) × (n.seq ≤ m.seq)
