-- What is said of a tree by the fault of its root's header.
use Rattle.std.proofs.Common.{inl}
use Rattle.nand_model.specs.declared.geometry.Geometry.{Geometry}
use Rattle.flash_tree.specs.Tree.{NewestMap}
use Rattle.pages.specs.State.{PagesState, OnlyFinds}
use Rattle.tree_walk.specs.Faults.{ReportsRoot, RootFailsBy}
use Rattle.tree_walk.specs.declared.fault.RootFault.{RootFault}
use Rattle.tree_walk.specs.declared.fault.RootFault.TheVariants as roots
use Rattle.mounting.specs.TreeAnswers.{WhyNoTree, FailsTree}

-- what is wrong with the header is wrong with the tree
pub wrong_root : (g : Geometry) (m : NewestMap) (fault : RootFault) → ReportsRoot g m fault → WhyNoTree g m fault
wrong_root g m roots.NoMemory wrong = tt
wrong_root g m roots.Device wrong = tt
wrong_root g m roots.NotAVolume wrong = wrong
wrong_root g m (roots.Newer format) wrong = inl wrong
wrong_root g m roots.Damaged wrong = inl wrong

pub root_fails : (fault : RootFault) (old new : PagesState) → RootFailsBy old new fault → FailsTree new fault
root_fails roots.NoMemory old new why = tt
root_fails roots.Device old new why = why
root_fails roots.NotAVolume old new why = tt
root_fails (roots.Newer format) old new why = tt
root_fails roots.Damaged old new why = tt

-- a device that has failed has failed after a look-up
pub fails_still : (fault : RootFault) (old new : PagesState) → OnlyFinds old new → FailsTree old fault → FailsTree new fault
fails_still roots.NoMemory old new lookups why = tt
fails_still roots.Device old new lookups why = lookups.failed why
fails_still roots.NotAVolume old new lookups why = tt
fails_still (roots.Newer format) old new lookups why = tt
fails_still roots.Damaged old new lookups why = tt
