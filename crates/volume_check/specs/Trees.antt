-- A tree that was gone through.
use Rattle.std.specs.Prelude.{ℕ}
use Rattle.flash_tree.specs.Tree.{NewestMap}
use Rattle.flash_tree.specs.Mount.{sizes_of, IsVolume}
use Rattle.nand_model.specs.declared.geometry.Geometry.{Geometry}
use Rattle.tree_walk.specs.Trees.{IsTreeThrough}
use Rattle.tree_walk.specs.declared.tree.Tree.{Tree}

-- the pages are those of a volume whose tree is whole
pub record HasWholeTree (g : Geometry) (m : NewestMap) : Type 0 where
  pub spare : ℕ
  pub volume : IsVolume g m spare
  pub tree : Tree
  pub through : IsTreeThrough (sizes_of g spare) m tree
