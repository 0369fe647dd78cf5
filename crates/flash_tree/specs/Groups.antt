-- Which pages of a flash count.
-- From: the format: tags, `FORMATS.md`.
use Rattle.std.specs.Prelude.{◌≡◌, ◌⊎◌, ◌↔◌, ◌<◌, ◌≤◌, ℕ, ◌+◌, false, List}
use Rattle.nand_model.specs.Flash.{Flash, Written}
use Rattle.nand_model.specs.Changes.{Grows}
use Rattle.page_tags.specs.declared.tag.Tag.{Tag}
use Rattle.page_tags.specs.Tags.{tag_bytes, IsTag}

-- the page is written and has this tag, which is valid
pub record HasTag (flash : Flash) (b p : ℕ) (t : Tag) : Type 0 where
  pub bytes : List ℕ
  pub page : flash.page b p ≡ Written bytes (tag_bytes t)
  pub valid : IsTag t

-- A group by its place and its numbers.
pub record Group : Type 0 where
  pub block : ℕ
  pub start : ℕ
  pub size : ℕ
  pub number : ℕ
  pub seq : ℕ

-- page i of the group is there
pub record IsPart (flash : Flash) (g : Group) (i : ℕ) : Type 0 where
  pub tag : Tag
  pub has : HasTag flash g.block (g.start + i) tag
  pub index : tag.index ≡ i
  pub count : tag.count ≡ g.size
  pub group : tag.group ≡ g.number
  pub seq : tag.seq ≡ g.seq

-- the group is whole, in a good block: its pages lie one after the other, with index 0 to size - 1 and the same numbers
pub record IsGroup (flash : Flash) (g : Group) : Type 0 where
  pub good : flash.bad g.block ≡ false
  pub some : 1 ≤ g.size
  pub each : (i : ℕ) → i < g.size → IsPart flash g i

-- the page is one of a group that is whole
pub record IsCounted (flash : Flash) (b p : ℕ) : Type 0 where
  pub group : Group
  pub whole : IsGroup flash group
  pub block : b ≡ group.block
  pub index : ℕ
  pub within : index < group.size
  pub page : p ≡ group.start + index

-- the same groups count
abbrev pub SameGroups : Flash → Flash → Type 0
SameGroups old new = (g : Group) → IsGroup new g ↔ IsGroup old g

-- one more group counts
abbrev pub AddsGroup : Group → Flash → Flash → Type 0
AddsGroup added old new = (g : Group) → IsGroup new g ↔ (IsGroup old g ⊎ (g ≡ added))

-- all pages of the group are there, with these tags and data
abbrev pub AllThere : Group → (ℕ → Tag) → (ℕ → List ℕ) → Flash → Type 0
AllThere g tag bytes flash = (i : ℕ) → i < g.size → (flash.page g.block (g.start + i) ≡ Written (bytes i) (tag_bytes (tag i))) × IsTag (tag i)

-- The group is added, with these tags and data of its pages, and only erased pages are other than they were.
pub record AddsWhole (g : Group) (tag : ℕ → Tag) (bytes : ℕ → List ℕ) (old new : Flash) : Type 0 where
  pub adds : AddsGroup g old new
  pub grows : Grows old new
  pub pages : AllThere g tag bytes new

-- page i of the group is of the key, and no other is
pub record NamesOnce (x : Group) (tag : ℕ → Tag) (o c i : ℕ) : Type 0 where
  pub within : i < x.size
  pub object : (tag i).object ≡ o
  pub chunk : (tag i).chunk ≡ c
  pub once : (k : ℕ) → k < x.size → (tag k).object ≡ o → (tag k).chunk ≡ c → k ≡ i

-- no page of the group is of the key
abbrev pub NamesNot : Group → (ℕ → Tag) → ℕ → ℕ → Type 0
NamesNot x tag o c = (i : ℕ) → i < x.size → (tag i).object ≡ o → (tag i).chunk ≡ c → ⊥
