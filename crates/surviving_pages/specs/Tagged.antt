-- The pages of a block that survive, and those that are lost, by the tags of its pages.
use Rattle.std.specs.Prelude.{◌≡◌, ◌⊎◌, ◌↔◌, ◌<◌, ◌≤◌, ℕ, ◌+◌, List, Option, Some, None, length, slice_get, Contains}
use Rattle.std.specs.List.{AllPairs}
use Rattle.page_tags.specs.declared.tag.Tag.{Tag}
use Rattle.flash_tree.specs.declared.place.Found.{Found}
use Rattle.flash_tree.specs.Places.{spot_of}
use Rattle.surviving_pages.specs.declared.survivors.LostPlace.{LostPlace}
use Rattle.surviving_pages.specs.Lost.{IsPlaceBefore}
use Rattle.surviving_pages.specs.Surviving.{last_page}

-- a page with a tag lies at page p or behind it, and before page end
pub record IsTaggedBetween (tags : List (Option Tag)) (p end : ℕ) : Type 0 where
  pub page : ℕ
  pub from : p ≤ page
  pub before : page < end
  pub tag : Tag
  pub there : slice_get tags page ≡ Some (Some tag)

-- page end is behind the last page with a tag: a page is before it exactly where one with a tag lies at that page or behind it
abbrev pub IsEndOfTags : List (Option Tag) → ℕ → Type 0
IsEndOfTags tags end = (p : ℕ) → p < end ↔ IsTaggedBetween tags p (length tags)

-- a page of block b with its tag, where the last page of its group or one behind it has a tag
pub record SurvivesIn (b : ℕ) (tags : List (Option Tag)) (f : Found) : Type 0 where
  pub block : f.block ≡ b
  pub tag : slice_get tags f.page ≡ Some (Some f.tag)
  pub completed : IsTaggedBetween tags (last_page (spot_of f)) (length tags)

-- the page is added to the list where it survives, and no other
abbrev pub AddsSurvivor : ℕ → List (Option Tag) → ℕ → List Found → List Found → Type 0
AddsSurvivor b tags page old new = (f : Found) → Contains new f ↔ (Contains old f ⊎ ((f.page ≡ page) × SurvivesIn b tags f))

-- the pages before page n that survive are listed, and no others
abbrev pub ListsSurvivors : ℕ → List (Option Tag) → ℕ → List Found → Type 0
ListsSurvivors b tags n list = (f : Found) → Contains list f ↔ ((f.page < n) × SurvivesIn b tags f)

-- a place in block b of a page that has no tag, where one behind it has
pub record IsLostIn (b : ℕ) (tags : List (Option Tag)) (x : LostPlace) : Type 0 where
  pub block : x.block ≡ b
  pub none : slice_get tags x.page ≡ Some None
  pub behind : IsTaggedBetween tags (x.page + 1) (length tags)

-- the places lie in blocks below b, in their strict order
pub record LieInOrder (b : ℕ) (list : List LostPlace) : Type 0 where
  pub below : (x : LostPlace) → Contains list x → x.block < b
  pub order : AllPairs IsPlaceBefore list

-- exactly the places in block b of lost pages are added, and in order behind places in blocks below b that are in order
pub record AddsLost (b : ℕ) (tags : List (Option Tag)) (old new : List LostPlace) : Type 0 where
  pub each : (x : LostPlace) → Contains new x ↔ (Contains old x ⊎ IsLostIn b tags x)
  pub order : LieInOrder b old → AllPairs IsPlaceBefore new
