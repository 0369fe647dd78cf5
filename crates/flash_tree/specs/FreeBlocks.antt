-- Blocks that hold nothing of what is needed.
-- From: this project.
use Rattle.std.specs.Prelude.{◌≡◌, ◌≢◌, ◌<◌, ◌≤◌, ℕ, ◌+◌, Bool, true, false, count_by}
use Rattle.std.specs.List.{range_with_len}
use Rattle.nand_model.specs.Flash.{Flash}
use Rattle.nand_model.specs.declared.geometry.Geometry.{Geometry}
use Rattle.flash_tree.specs.Newest.{Spot, IsNewest}
use Rattle.flash_tree.specs.Mount.{bad_blocks}

-- the block is good, and none of these keys has its newest page there
pub record IsFreeOf (flash : Flash) (keys : ℕ → ℕ → Type 0) (b : ℕ) : Type 0 where
  pub good : flash.bad b ≡ false
  pub apart : (o c : ℕ) (s : Spot) → keys o c → IsNewest flash o c s → s.block ≢ b

-- so many blocks as may still be needed for retirements, and one for a collection, are bad already or free of these keys
pub record LeavesFree (g : Geometry) (flash : Flash) (spare : ℕ) (keys : ℕ → ℕ → Type 0) : Type 0 where
  pub free : ℕ → Bool
  pub sufficient : 1 + spare ≤ count_by free (range_with_len 0 g.blocks) + bad_blocks g flash
  pub each : (b : ℕ) → b < g.blocks → free b ≡ true → IsFreeOf flash keys b
