-- Places and tags, as programs have them and as the definitions see them.
-- From: this project.
use Rattle.std.specs.Prelude.{◌≡◌, ◌⊎◌, ◌<◌, ◌≤◌, ℕ, ◌-◌, Option, Some, None}
use Rattle.nand_model.specs.Flash.{Flash}
use Rattle.page_tags.specs.declared.tag.Tag.{Tag}
use Rattle.flash_tree.specs.Groups.{HasTag, Group, IsGroup}
use Rattle.flash_tree.specs.Newest.{Spot, Numbers}
use Rattle.flash_tree.specs.declared.place.Found.{Found}
use Rattle.flash_tree.specs.declared.place.TagNumbers.{TagNumbers}

-- the place and the tag
abbrev pub spot_of : Found → Spot
spot_of f = record { block = f.block; page = f.page; tag = f.tag }

-- the three numbers
abbrev pub numbers_of : TagNumbers → Numbers
numbers_of n = record { version = n.version; group = n.group; seq = n.seq }

-- the key of chunk c of object o comes before that of chunk l of object k: by the object, then by the chunk
abbrev pub ComesBefore : ℕ → ℕ → ℕ → ℕ → Type 0
ComesBefore o c k l = (o < k) ⊎ ((o ≡ k) × (c < l))

-- the key of one page comes before that of another
abbrev pub IsKeyBefore : Found → Found → Type 0
IsKeyBefore f g = ComesBefore f.tag.object f.tag.chunk g.tag.object g.tag.chunk

-- what a page's tag was reported to be: with none the page has no valid tag
abbrev pub TagIs : Flash → ℕ → ℕ → Option Tag → Type 0
TagIs flash b p None = (t : Tag) → HasTag flash b p t → ⊥
TagIs flash b p (Some t) = HasTag flash b p t

-- The group that the tag of a page names: the page is the one at the tag's index.
abbrev pub group_of : Spot → Group
group_of s = record { block = s.block; start = s.page - s.tag.index; size = s.tag.count; number = s.tag.group; seq = s.tag.seq }

-- the page has this tag, which is of the key of object o and chunk c, and the group that it names is whole
pub record CountsByTag (flash : Flash) (o c : ℕ) (s : Spot) : Type 0 where
  pub has : HasTag flash s.block s.page s.tag
  pub object : s.tag.object ≡ o
  pub chunk : s.tag.chunk ≡ c
  pub start : s.tag.index ≤ s.page
  pub whole : IsGroup flash (group_of s)
