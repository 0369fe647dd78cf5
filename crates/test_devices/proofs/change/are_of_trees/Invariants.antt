use Rattle.std.proofs.Common.{◌≡◌, ◌<◌, ℕ, Some, slice_get}
use Rattle.flash_tree.specs.declared.place.FreshPage.{FreshPage}
use Rattle.pages.specs.Changes.{IsTreeKey}
use Rattle.test_devices.proofs.change.are_of_trees.Given as goal

abbrev pub invariant-loop-page : goal.invariant-loop-page
invariant-loop-page l = (i : ℕ) (p : FreshPage) → i < l.page-index → slice_get l.pages i ≡ Some p → IsTreeKey p.key
