-- What a walk that failed says of a tree.
use Rattle.std.specs.Prelude.{ℕ}
use Rattle.std.proofs.Common.{inr}
use Rattle.nand_model.specs.declared.geometry.Geometry.{Geometry}
use Rattle.flash_tree.specs.Tree.{NewestMap}
use Rattle.flash_tree.specs.Mount.{Wrong, IsNewer, IsDamaged, sizes_of, IsVolume}
use Rattle.pages.specs.State.{PagesState}
use Rattle.tree_walk.specs.Broken.{wrong_of}
use Rattle.tree_walk.specs.Faults.{ReportsWhy, ReportsWrong}
use Rattle.tree_walk.specs.Trees.{IsWrongBy}
use Rattle.tree_walk.specs.declared.fault.WalkFault.{WalkFault}
use Rattle.tree_walk.specs.declared.fault.WalkFault.TheVariants as walks
use Rattle.mounting.specs.TreeAnswers.{FailsTree, HasWrongTree, WhyNoTree, of_walk, of_wrong}

-- what is wrong with a tree is why none was gone through
tree_wrong : (g : Geometry) (m : NewestMap) (wrong : Wrong) → HasWrongTree g m wrong → WhyNoTree g m (of_wrong wrong)
tree_wrong g m (IsNewer format) is = is
tree_wrong g m IsDamaged is = is

-- what is wrong below the root's header is wrong with the tree
pub wrong_below : (g : Geometry) (m : NewestMap) (spare : ℕ) (fault : WalkFault) (new : PagesState) → IsVolume g m spare → ReportsWrong (IsWrongBy (sizes_of g spare) m) new fault
    → WhyNoTree g m (of_walk fault)
wrong_below g m spare walks.NoMemory new volume wrong = tt
wrong_below g m spare walks.Device new volume wrong = tt
wrong_below g m spare (walks.Broken broken) new volume wrong = tree_wrong g m (wrong_of broken.rule) (inr (spare, volume, wrong.0))

-- a walk that failed with the device has failed the tree
pub walk_fails : (fault : WalkFault) (new : PagesState) → ReportsWhy new fault → FailsTree new (of_walk fault)
walk_fails walks.NoMemory new why = tt
walk_fails walks.Device new why = why
walk_fails (walks.Broken broken) new why = no_device (wrong_of broken.rule) where
  no_device : (wrong : Wrong) → FailsTree new (of_wrong wrong)
  no_device (IsNewer format) = tt
  no_device IsDamaged = tt
