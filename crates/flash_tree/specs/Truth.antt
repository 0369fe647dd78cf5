-- What calls of a store keep of checkpoints and summaries.
-- From: the format: checkpoints and block summaries, `FORMATS.md`.
use Rattle.std.specs.Prelude.{◌≡◌, ◌<◌, ◌≤◌, ℕ, true, Option, Some}
use Rattle.nand_model.specs.Calls.{Device}
use Rattle.flash_tree.specs.Checkpoints.{IsChecked}
use Rattle.flash_tree.specs.Summaries.{AreSummariesRight}
use Rattle.flash_tree.specs.Slots.{check_object}

-- a number that an object may have: neither 0 nor that of checkpoints
abbrev pub IsObjectNumber : ℕ → Type 0
IsObjectNumber o = (1 ≤ o) × (o < check_object)

-- if each summary of the flash was right, each is so still
abbrev pub KeepsSummaries : Device → Device → Type 0
KeepsSummaries old new = AreSummariesRight old.geometry old.flash → AreSummariesRight new.geometry new.flash

-- The block that may have a checkpoint is the one that might before, or there is none any more; and if each whole checkpoint of
-- an honest device was right and in that block, each is so still. If each summary of it was right, each is so still.
pub record KeepsTrue (old new : Device) (before after : Option ℕ) : Type 0 where
  pub noted : (b : ℕ) → after ≡ Some b → before ≡ Some b
  pub checked : old.honest ≡ true → IsChecked old.geometry old.flash before → IsChecked new.geometry new.flash after
  pub summaries : old.honest ≡ true → KeepsSummaries old new
