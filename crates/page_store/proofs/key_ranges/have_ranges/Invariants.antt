use Rattle.std.proofs.Common.{ℕ, Some, slice_get, ◌≡◌, ◌<◌}
use Rattle.flash_tree.specs.declared.place.FreshPage.{FreshPage}
use Rattle.page_store.specs.Carrying.{HasRanges}
use Rattle.page_store.proofs.key_ranges.have_ranges.Given as goal

abbrev pub invariant-loop-page : goal.invariant-loop-page
invariant-loop-page l = (i : ℕ) (p : FreshPage) → i < l.page-index → slice_get l.pages i ≡ Some p → HasRanges p.key
