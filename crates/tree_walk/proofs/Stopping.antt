-- A walk that stops at an object: the tree is wrong, by the first rule that is broken.
use Rattle.std.specs.Prelude.{ℕ}
use Rattle.std.proofs.Common.{inl, inr}
use Rattle.flash_tree.specs.Mount.{Wrongly, stops}
use Rattle.flash_tree.specs.Tree.{NewestMap}
use Rattle.volume_terms.specs.Sizes.{Sizes}
use Rattle.tree_walk.specs.Broken.{comes_here, wrong_of}
use Rattle.tree_walk.specs.Trees.{IsWrongBy}
use Rattle.tree_walk.specs.Walks.{IsGoing, StopsOn}
use Rattle.tree_walk.specs.declared.broken.Broken.{Broken}
use Rattle.tree_walk.specs.declared.walking.WalkState.{WalkState}

pub wrong_by_stop : (z : Sizes) (m : NewestMap) (n : ℕ) (walk : WalkState) → IsGoing z m n walk → (b : Broken) → StopsOn z m walk n b → IsWrongBy z m b
wrong_by_stop z m n walk going b (at, (object, breaks, lookups)) = (
  inl (going.so_far (Wrongly (wrong_of b.rule)) (stops b.key.object (wrong_of b.rule) at lookups)),
  (breaks, inr (going.comes b.key.object (comes_here at))),
)
