-- How many pages have each state.
use Rattle.std.specs.Prelude.{◌≡◌, ℕ, ◌+◌, Bool, true, false, List, count_by}
use Rattle.chip_map.specs.declared.page_state.PageState.{PageState}
use Rattle.chip_map.specs.declared.page_state.PageState.TheVariants as states
use Rattle.chip_map.specs.declared.page_state.SurveyedPage.{SurveyedPage}
use Rattle.chip_map.specs.declared.counts.PageCounts.{PageCounts}

-- whether two states are the same
abbrev pub is_state : PageState → PageState → Bool
is_state states.Bad states.Bad = true
is_state states.Erased states.Erased = true
is_state states.Uncorrectable states.Uncorrectable = true
is_state states.Invalid states.Invalid = true
is_state states.Stale states.Stale = true
is_state states.Current states.Current = true
is_state _ _ = false

-- how many pages have a state
abbrev pub count_of : PageState → List SurveyedPage → ℕ
count_of state pages = count_by (λ (page : SurveyedPage). is_state state page.state) pages

-- each number is how many of the pages have its state
pub record AreCounts (pages : List SurveyedPage) (counts : PageCounts) : Type 0 where
  pub bad : counts.bad ≡ count_of states.Bad pages
  pub erased : counts.erased ≡ count_of states.Erased pages
  pub uncorrectable : counts.uncorrectable ≡ count_of states.Uncorrectable pages
  pub invalid : counts.invalid ≡ count_of states.Invalid pages
  pub stale : counts.stale ≡ count_of states.Stale pages
  pub current : counts.current ≡ count_of states.Current pages

-- all pages that were in the count
abbrev pub total_of : PageCounts → ℕ
total_of counts = counts.bad + counts.erased + counts.uncorrectable + counts.invalid + counts.stale + counts.current
