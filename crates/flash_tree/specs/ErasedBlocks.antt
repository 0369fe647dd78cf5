-- Blocks that begin with an erased page.
-- From: this project.
use Rattle.std.specs.Prelude.{◌≡◌, ◌≢◌, ◌<◌, ◌≤◌, ℕ, false}
use Rattle.nand_model.specs.Flash.{Flash, Erased}
use Rattle.page_tags.specs.declared.tag.Tag.{Tag}
use Rattle.flash_tree.specs.Groups.{HasTag}

-- the block is good, and its page 0 is erased
abbrev pub BeginsErased : Flash → ℕ → Type 0
BeginsErased flash b = (flash.bad b ≡ false) × (flash.page b 0 ≡ Erased)

-- of so many blocks this is the lowest good one whose page 0 is erased
pub record IsLowestErased (blocks : ℕ) (flash : Flash) (b : ℕ) : Type 0 where
  pub within : b < blocks
  pub begins : BeginsErased flash b
  pub lowest : (k : ℕ) → k < blocks → BeginsErased flash k → b ≤ k

-- of so many blocks no other good one has an erased page 0
abbrev pub NoneErasedBeside : ℕ → Flash → ℕ → Type 0
NoneErasedBeside blocks flash b = (k : ℕ) → k < blocks → BeginsErased flash k → k ≡ b

-- of the good blocks whose page 0 is erased the first alone may have tags: an erase of it may have been cut
abbrev pub OnlyFirstHasTags : Flash → Type 0
OnlyFirstHasTags flash = (b k l : ℕ) (t : Tag) → b < k → BeginsErased flash b → BeginsErased flash k → HasTag flash k l t → ⊥

-- Block b is the first that an erase may leave torn: each other good block whose page 0 is erased lies behind it, and has no tag.
abbrev pub GoesFirst : Flash → ℕ → Type 0
GoesFirst flash b = (k : ℕ) → k ≢ b → BeginsErased flash k → (b < k) × ((l : ℕ) (t : Tag) → HasTag flash k l t → ⊥)
