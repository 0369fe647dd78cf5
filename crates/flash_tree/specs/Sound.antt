-- The flashes that a volume is committed on.
-- From: this project.
use Rattle.std.specs.Prelude.{◌≤◌, ℕ}
use Rattle.nand_model.specs.Flash.{Flash}
use Rattle.nand_model.specs.declared.geometry.Geometry.{Geometry}
use Rattle.posix_profile.specs.State.{Objects}
use Rattle.volume_terms.specs.Sizes.{number_limit}
use Rattle.flash_tree.specs.Newest.{HasNewest, AreAbove}
use Rattle.flash_tree.specs.Tree.{Shows}
use Rattle.flash_tree.specs.Mount.{sizes_of, IsVolume, HasRoom, bad_blocks}

-- the flash shows this tree of a volume of so many spare blocks; no more blocks than these are bad, there is room to go on, and no number is used up
pub record IsSoundFlash (g : Geometry) (flash : Flash) (spare : ℕ) (objects : Objects) : Type 0 where
  pub volume : IsVolume g (HasNewest flash) spare
  pub shows : Shows (sizes_of g spare) (HasNewest flash) objects
  pub room : HasRoom g flash spare objects
  pub few_bad : bad_blocks g flash ≤ spare
  pub numbers : AreAbove flash (record { version = number_limit; group = number_limit; seq = number_limit })
