use Rattle.std.proofs.Common.{◌≡◌, ◌<◌, ◌≤◌, ℕ, Some, length, slice_get}
use Rattle.flash_tree.specs.Slots.{check_object}
use Rattle.flash_tree.specs.declared.place.FreshPage.{FreshPage}
use Rattle.log_tests.proofs.volumes.may_commit.Given as goal

abbrev pub invariant-loop-i : goal.invariant-loop-i
invariant-loop-i l = (i : ℕ) (p : FreshPage) → i < l.i → slice_get l.pages i ≡ Some p → (1 ≤ p.key.object) × (length p.bytes.items ≡ l.bytes) × (p.key.object < check_object)
