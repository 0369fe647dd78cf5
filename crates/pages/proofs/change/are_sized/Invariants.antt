use Rattle.std.proofs.Common.{◌≡◌, ◌<◌, ℕ, Some, slice_get, length}
use Rattle.flash_tree.specs.declared.place.FreshPage.{FreshPage}
use Rattle.pages.proofs.change.are_sized.Given as goal

abbrev pub invariant-loop-page : goal.invariant-loop-page
invariant-loop-page l = (i : ℕ) (p : FreshPage) → i < l.page-index → slice_get l.pages i ≡ Some p → length p.bytes.items ≡ l.page_bytes
