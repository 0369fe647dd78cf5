-- The numbers that are on a flash, and those that come next.
-- From: this project.
use Rattle.std.specs.Prelude.{◌≡◌, ◌<◌, ℕ, false}
use Rattle.nand_model.specs.Flash.{Flash}
use Rattle.page_tags.specs.declared.tag.Tag.{Tag}
use Rattle.flash_tree.specs.Groups.{HasTag}

-- the versions, groups and seqs of all valid tags of good blocks, valid or not, are below these numbers
abbrev pub AreBelow : Flash → (group seq : ℕ) → Type 0
AreBelow flash group seq = (b p : ℕ) (t : Tag) → flash.bad b ≡ false → HasTag flash b p t → (t.version < group) × (t.group < group) × (t.seq < seq)
