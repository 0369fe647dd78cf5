-- The whole groups in the tags of a block.
use Rattle.std.specs.Prelude.{◌≡◌, ◌⊎◌, ◌↔◌, ◌<◌, ◌≤◌, ℕ, ◌+◌, List, Option, Some, slice_get, Contains}
use Rattle.std.specs.List.{AllPairs}
use Rattle.page_tags.specs.declared.tag.Tag.{Tag}
use Rattle.flash_tree.specs.declared.place.Found.{Found}
use Rattle.mount_scan.specs.Scanned.{IsPlaceBefore}

-- page start + i has the tag of page i of the group that a tag names
pub record IsPartOf (tags : List (Option Tag)) (start : ℕ) (first : Tag) (i : ℕ) : Type 0 where
  pub tag : Tag
  pub there : slice_get tags (start + i) ≡ Some (Some tag)
  pub index : tag.index ≡ i
  pub count : tag.count ≡ first.count
  pub group : tag.group ≡ first.group
  pub seq : tag.seq ≡ first.seq

-- the group that the tag of a page names begins there and is whole
pub record IsRun (tags : List (Option Tag)) (start : ℕ) (first : Tag) : Type 0 where
  pub here : slice_get tags start ≡ Some (Some first)
  pub each : (i : ℕ) → i < first.count → IsPartOf tags start first i

-- the page is one of the whole group that begins at another
pub record IsWithinRun (tags : List (Option Tag)) (start page : ℕ) : Type 0 where
  pub first : Tag
  pub run : IsRun tags start first
  pub from : start ≤ page
  pub to : page < start + first.count

-- a page of block b before page p that counts, with its tag
pub record IsCountedIn (b : ℕ) (tags : List (Option Tag)) (p : ℕ) (f : Found) : Type 0 where
  pub block : f.block ≡ b
  pub before : f.page < p
  pub tag : slice_get tags f.page ≡ Some (Some f.tag)
  pub start : ℕ
  pub within : IsWithinRun tags start f.page

-- page p of block b with its tag, if it has one
pub record IsPageAt (b : ℕ) (tags : List (Option Tag)) (p : ℕ) (f : Found) : Type 0 where
  pub block : f.block ≡ b
  pub page : f.page ≡ p
  pub tag : slice_get tags p ≡ Some (Some f.tag)

-- The list has more pages, all those of a kind. Where it was in the order of places and all new ones come after the
-- old, it is still in that order.
pub record AddsSome (IsNew : Found → Type 0) (old new : List Found) : Type 0 where
  pub each : (f : Found) → Contains new f ↔ (Contains old f ⊎ IsNew f)
  pub order : AllPairs IsPlaceBefore old → ((f g : Found) → Contains old f → IsNew g → IsPlaceBefore f g) → AllPairs IsPlaceBefore new

-- page p was added, if it has a tag
abbrev pub AddsPage : ℕ → List (Option Tag) → ℕ → List Found → List Found → Type 0
AddsPage b tags p = AddsSome (IsPageAt b tags p)

-- all pages before page p that count were added
abbrev pub AddsCounted : ℕ → List (Option Tag) → ℕ → List Found → List Found → Type 0
AddsCounted b tags p = AddsSome (IsCountedIn b tags p)

-- of the whole groups that begin before page n, those pages from page p on that lie before this end are all
pub record Reaches (tags : List (Option Tag)) (n p end : ℕ) : Type 0 where
  pub covers : (start page : ℕ) → start < n → p ≤ page → IsWithinRun tags start page → page < end
  pub covered : (page : ℕ) → p ≤ page → page < end → (start : ℕ) × (start < n) × IsWithinRun tags start page
