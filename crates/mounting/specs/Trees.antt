-- The tree of a volume that was gone through.
use Rattle.std.specs.Prelude.{◌≡◌, ℕ}
use Rattle.flash_tree.specs.Tree.{NewestMap}
use Rattle.flash_tree.specs.Mount.{sizes_of, IsVolume}
use Rattle.nand_model.specs.declared.geometry.Geometry.{Geometry}
use Rattle.tree_walk.specs.Trees.{IsTreeThrough, page_size}
use Rattle.tree_walk.specs.declared.tree.Tree.{Tree}

-- The pages are those of a volume with so many spare blocks, and its tree was gone through wholly.
pub record IsGoneThrough (g : Geometry) (m : NewestMap) (spare : ℕ) (tree : Tree) : Type 0 where
  pub volume : IsVolume g m spare
  pub size : page_size tree ≡ g.bytes
  pub tree_is : IsTreeThrough (sizes_of g spare) m tree
