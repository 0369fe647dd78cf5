-- The valid pages of a flash, and what is known while they are noted.
use Rattle.std.specs.Prelude.{◌≡◌, ◌≢◌, ◌↔◌, ◌<◌, ℕ, ◌+◌, ◌*◌, true, false, List, Option, Some, None, length, slice_get, Contains, Result, OnOk}
use Rattle.nand_model.specs.Flash.{Flash}
use Rattle.flash_tree.specs.Newest.{Holds}
use Rattle.flash_tree.specs.declared.place.Found.{Found}
use Rattle.flash_tree.specs.Places.{spot_of, TagIs}
use Rattle.chip_map.specs.declared.page_state.PageState.{PageState}
use Rattle.chip_map.specs.declared.page_state.PageState.TheVariants as states
use Rattle.chip_map.specs.declared.page_state.SurveyedPage.{SurveyedPage}
use Rattle.chip_map.specs.States.{IsWritten, IsPageState}
use Rattle.nand_model.specs.Calls.{Device}

-- exactly the valid pages of the flash
abbrev pub AreValid : Flash → List Found → Type 0
AreValid flash valid = (f : Found) → Contains valid f ↔ Holds flash f.tag.object f.tag.chunk (spot_of f)

-- there is a page, and it has the place of another
abbrev pub LiesAt : Option Found → Found → Type 0
LiesAt page f = (g : Found) × (page ≡ Some g) × (g.block ≡ f.block) × (g.page ≡ f.page)

-- what a page is, where a written page that was not noted as valid counts as invalid
abbrev pub IsNotedState : Flash → ℕ → ℕ → PageState → Type 0
IsNotedState flash b p states.Invalid = IsWritten flash b p
IsNotedState flash b p state = IsPageState flash b p state

-- such a state of the page, and its tag
pub record IsNoted (flash : Flash) (b p : ℕ) (page : SurveyedPage) : Type 0 where
  pub state : IsNotedState flash b p page.state
  pub tag : flash.bad b ≡ false → TagIs flash b p page.tag
  pub none : flash.bad b ≡ true → page.tag ≡ None

-- such pages, one block after another
abbrev pub AreNoted : Flash → (pages : ℕ) → List SurveyedPage → Type 0
AreNoted flash pages list = (b p : ℕ) (page : SurveyedPage) → p < pages → slice_get list (b * pages + p) ≡ Some page → IsNoted flash b p page

-- the page of a place is noted as valid
pub record IsNotedAt (pages : ℕ) (list : List SurveyedPage) (f : Found) : Type 0 where
  pub page : SurveyedPage
  pub there : slice_get list (f.block * pages + f.page) ≡ Some page
  pub valid : page.state ≢ states.Invalid

-- the first n valid pages are noted
pub record Notes (flash : Flash) (pages : ℕ) (valid : List Found) (n : ℕ) (list : List SurveyedPage) : Type 0 where
  pub each : AreNoted flash pages list
  pub noted : (k : ℕ) (f : Found) → k < n → slice_get valid k ≡ Some f → IsNotedAt pages list f

-- each place lies on a device of so many pages a block, of which the list has all
abbrev pub AreWithin : (pages : ℕ) → List Found → List SurveyedPage → Type 0
AreWithin pages valid list = (k : ℕ) (f : Found) → slice_get valid k ≡ Some f → (f.page < pages) × (f.block * pages + f.page < length list)

-- of an honest device: where the pages of the blocks before were noted, so are they with those of one more
abbrev pub KeepsNoted : {T E : Type 0} → Device → List SurveyedPage → List SurveyedPage → Result T E → Type 0
KeepsNoted d old new result = d.honest ≡ true → AreNoted d.flash d.geometry.pages old → OnOk result (AreNoted d.flash d.geometry.pages new)
