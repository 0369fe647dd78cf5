-- Which slots the directories of a tree may have.
-- From: the format: slots and checkpoints, `FORMATS.md`.
use Rattle.std.specs.Prelude.{◌≢◌, ◌<◌, ◌≤◌, ℕ, ◌-◌, ◌^◌}
use Rattle.page_tags.specs.Slots.{Entry, IsSlot}

-- the number of the object that the pages of a checkpoint are of, which no tree has
abbrev pub check_object : ℕ
check_object = 2 ^ 64 - 1

-- a number that a slot of a tree may lead to: neither the root nor the object of checkpoints has it
abbrev pub IsSlotNumber : ℕ → Type 0
IsSlotNumber o = (2 ≤ o) × (o < check_object)

-- a slot of the format, which does not lead to the object of checkpoints
pub record IsTreeSlot (s : Entry) : Type 0 where
  pub slot : IsSlot s
  pub ordinary : s.object ≢ check_object
