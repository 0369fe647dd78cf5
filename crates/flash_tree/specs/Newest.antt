-- The newest page of a key, and the greatest numbers of a flash.
-- From: the format: tags; versions and sequence numbers as log-structured flash file systems have them.
use Rattle.std.specs.Prelude.{◌≡◌, ◌⊎◌, ◌<◌, ◌≤◌, ℕ, ◌+◌, false, List}
use Rattle.nand_model.specs.Flash.{Flash, Written}
use Rattle.page_tags.specs.declared.tag.Tag.{Tag}
use Rattle.page_tags.specs.Tags.{tag_bytes}
use Rattle.flash_tree.specs.Groups.{HasTag, Group, IsGroup}

-- a place of a page, with its tag
pub record Spot : Type 0 where
  pub block : ℕ
  pub page : ℕ
  pub tag : Tag

-- the place of page i of a group whose pages have these tags
abbrev pub spot_in : Group → (ℕ → Tag) → ℕ → Spot
spot_in g tag i = record { block = g.block; page = g.start + i; tag = tag i }

-- the page there counts, and is of the key of object o and chunk c
pub record Holds (flash : Flash) (o c : ℕ) (s : Spot) : Type 0 where
  pub group : Group
  pub whole : IsGroup flash group
  pub index : ℕ
  pub within : index < group.size
  pub block : s.block ≡ group.block
  pub page : s.page ≡ group.start + index
  pub has : HasTag flash s.block s.page s.tag
  pub object : s.tag.object ≡ o
  pub chunk : s.tag.chunk ≡ c

-- s comes after t: by the version, then by seq, page and block
abbrev pub IsAfter : Spot → Spot → Type 0
IsAfter s t = (t.tag.version < s.tag.version)
    ⊎ ((s.tag.version ≡ t.tag.version) × ((t.tag.seq < s.tag.seq)
    ⊎ ((s.tag.seq ≡ t.tag.seq) × ((t.page < s.page) ⊎ ((s.page ≡ t.page) × (t.block < s.block))))))

-- no page that counts for the key comes after this one
abbrev pub HasNoneAfter : Flash → ℕ → ℕ → Spot → Type 0
HasNoneAfter flash o c s = (t : Spot) → Holds flash o c t → IsAfter t s → ⊥

-- the newest page of the key: it counts, and none that counts comes after it
pub record IsNewest (flash : Flash) (o c : ℕ) (s : Spot) : Type 0 where
  pub holds : Holds flash o c s
  pub last : (t : Spot) → Holds flash o c t → IsAfter t s → ⊥

-- the newest page of the key is there, and has this data
pub record IsNewestWith (flash : Flash) (o c : ℕ) (s : Spot) (bytes : List ℕ) : Type 0 where
  pub newest : IsNewest flash o c s
  pub stored : flash.page s.block s.page ≡ Written bytes (tag_bytes s.tag)

-- the newest page of the key has this data
pub record HasNewest (flash : Flash) (o c : ℕ) (bytes : List ℕ) : Type 0 where
  pub spot : Spot
  pub newest : IsNewest flash o c spot
  pub stored : flash.page spot.block spot.page ≡ Written bytes (tag_bytes spot.tag)

-- the numbers of tags
pub record Numbers : Type 0 where
  pub version : ℕ
  pub group : ℕ
  pub seq : ℕ

-- no valid tag of a good block, valid or not, has a number above these
abbrev pub AreAbove : Flash → Numbers → Type 0
AreAbove flash n = (b p : ℕ) (t : Tag) → flash.bad b ≡ false → HasTag flash b p t → (t.version ≤ n.version) × (t.group ≤ n.group) × (t.seq ≤ n.seq)

-- the greatest numbers of valid tags of good blocks: the least that are above them all
pub record AreGreatest (flash : Flash) (n : Numbers) : Type 0 where
  pub above : AreAbove flash n
  pub least : (m : Numbers) → AreAbove flash m → (n.version ≤ m.version) × (n.group ≤ m.group) × (n.seq ≤ m.seq)
