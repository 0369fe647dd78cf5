use Rattle.std.proofs.Common.{◌≡◌, ◌<◌, ℕ, Some, slice_get}
use Rattle.page_tags.specs.declared.header.ObjectKind.TheVariants as kinds
use Rattle.tree_walk.specs.Walks.{HasAgain, HasHead}
use Rattle.tree_walk.specs.declared.head.Head.{Head}
use Rattle.tree_walk.proofs.walking.WalkState.directory_again.Given as goal

abbrev pub invariant-loop-place : goal.invariant-loop-place
invariant-loop-place l = (i o : ℕ) (head : Head) → i < l.place → slice_get l.self.objects.items i ≡ Some o → HasAgain l.self o → HasHead l.self o head → head.kind ≡ kinds.Directory → ⊥
