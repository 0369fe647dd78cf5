-- What a page of a flash is.
use Rattle.std.specs.Prelude.{◌≡◌, ◌<◌, ℕ, ◌+◌, ◌*◌, true, false, List, Some, None, slice_get}
use Rattle.nand_model.specs.Flash.{Flash, Erased, Written, Uncorrectable}
use Rattle.page_tags.specs.declared.tag.Tag.{Tag}
use Rattle.flash_tree.specs.Groups.{IsCounted}
use Rattle.flash_tree.specs.Newest.{Holds, IsNewest}
use Rattle.flash_tree.specs.Places.{TagIs}
use Rattle.chip_map.specs.declared.page_state.PageState.{PageState}
use Rattle.chip_map.specs.declared.page_state.PageState.TheVariants as states
use Rattle.chip_map.specs.declared.page_state.SurveyedPage.{SurveyedPage}

-- the page of a good block is written
pub record IsWritten (flash : Flash) (b p : ℕ) : Type 0 where
  pub good : flash.bad b ≡ false
  pub bytes : List ℕ
  pub tag : List ℕ
  pub page : flash.page b p ≡ Written bytes tag

-- the page is valid, with its tag, and is not the newest page of its key
pub record IsStale (flash : Flash) (b p : ℕ) : Type 0 where
  pub tag : Tag
  pub holds : Holds flash tag.object tag.chunk (record { block = b; page = p; tag = tag })
  pub older : IsNewest flash tag.object tag.chunk (record { block = b; page = p; tag = tag }) → ⊥

-- the page is the newest page of its tag's key
pub record IsCurrent (flash : Flash) (b p : ℕ) : Type 0 where
  pub tag : Tag
  pub newest : IsNewest flash tag.object tag.chunk (record { block = b; page = p; tag = tag })

-- what page p of block b is
abbrev pub IsPageState : Flash → ℕ → ℕ → PageState → Type 0
IsPageState flash b p states.Bad = flash.bad b ≡ true
IsPageState flash b p states.Erased = (flash.bad b ≡ false) × (flash.page b p ≡ Erased)
IsPageState flash b p states.Uncorrectable = (flash.bad b ≡ false) × (flash.page b p ≡ Uncorrectable)
IsPageState flash b p states.Invalid = IsWritten flash b p × (IsCounted flash b p → ⊥)
IsPageState flash b p states.Stale = IsStale flash b p
IsPageState flash b p states.Current = IsCurrent flash b p

-- the state of the page, and its tag: of a page of a bad block none is reported
pub record IsSurveyed (flash : Flash) (b p : ℕ) (page : SurveyedPage) : Type 0 where
  pub state : IsPageState flash b p page.state
  pub tag : flash.bad b ≡ false → TagIs flash b p page.tag
  pub none : flash.bad b ≡ true → page.tag ≡ None

-- the pages of a flash whose blocks have so many pages, one block after another
abbrev pub AreSurveyed : Flash → (pages : ℕ) → List SurveyedPage → Type 0
AreSurveyed flash pages list = (b p : ℕ) (page : SurveyedPage) → p < pages → slice_get list (b * pages + p) ≡ Some page → IsSurveyed flash b p page
