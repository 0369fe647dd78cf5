-- Flashes from which a mount may go by summaries.
-- From: this project.
use Rattle.std.specs.Prelude.{ℕ, Option, Some, None}
use Rattle.nand_model.specs.Flash.{Flash}
use Rattle.nand_model.specs.declared.geometry.Geometry.{Geometry}
use Rattle.posix_profile.specs.State.{Objects}
use Rattle.flash_tree.specs.Checkpoints.{Checkpoint, IsWhole}
use Rattle.flash_tree.specs.ErasedBlocks.{GoesFirst}
use Rattle.flash_tree.specs.Mount.{sizes_of, IsVolume}
use Rattle.flash_tree.specs.Newest.{HasNewest}
use Rattle.flash_tree.specs.Summaries.{IsSummarized}
use Rattle.flash_tree.specs.Summarizing.{IsFindable}
use Rattle.flash_tree.specs.Tree.{Shows, InFootprint}

-- a mount by summaries finds the newest page of each key that is looked up to see the tree of the flash
abbrev pub IsTreeFindable : Geometry → Flash → Type 0
IsTreeFindable g flash = (spare : ℕ) (objects : Objects) → IsVolume g (HasNewest flash) spare → Shows (sizes_of g spare) (HasNewest flash) objects
    → (o c : ℕ) → InFootprint (sizes_of g spare) (HasNewest flash) objects o c → IsFindable g flash o c

-- A mount may go by the summaries of the flash, and by these finds its tree; and the block of a whole checkpoint is the first that an erase
-- may leave torn, so that it can be the next that is erased.
pub record IsMountableFlash (g : Geometry) (flash : Flash) : Type 0 where
  pub summarized : IsSummarized g flash
  pub found : IsTreeFindable g flash
  pub checkpoints : (c : Checkpoint) → IsWhole g flash c → GoesFirst flash c.block

-- that a flash is so, by whatever proof
abbrev pub MayBeMountable : Geometry → Flash → Type 0
MayBeMountable g flash = ∥ IsMountableFlash g flash ∥₁

-- a flash is remembered, and a mount could go by its summaries
abbrev pub BeganMountable : Geometry → Option Flash → Type 0
BeganMountable g None = ⊥
BeganMountable g (Some first) = MayBeMountable g first
