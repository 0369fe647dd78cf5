-- What a table knows of blocks that begin with an erased page.
-- From: this project.
use Rattle.std.specs.Prelude.{◌≡◌, ◌<◌, ◌≤◌, ℕ, true, false, Some}
use Rattle.nand_model.specs.Flash.{Flash}
use Rattle.nand_model.specs.Calls.{Device}
use Rattle.page_tags.specs.declared.tag.Tag.{Tag}
use Rattle.flash_tree.specs.Groups.{HasTag}
use Rattle.flash_tree.specs.ErasedBlocks.{BeginsErased, OnlyFirstHasTags, GoesFirst}
use Rattle.block_state.specs.Table.{Table}

-- the block is a good one of the device, and as far as the table knows nothing was programmed in it since it was erased
pub record IsBlank (t : Table) (b : ℕ) : Type 0 where
  pub within : b < t.geometry.blocks
  pub good : (t.entry b).bad ≡ false
  pub next : (t.entry b).next ≡ 0

-- as far as the table knows nothing was programmed in the block since it was erased, and no page of it is committed
pub record IsUnwritten (t : Table) (b : ℕ) : Type 0 where
  pub next : (t.entry b).next ≡ 0
  pub committed : (t.entry b).committed ≡ 0

-- the block is on the device, and none that is blank lies before it
pub record IsFirstBlank (t : Table) (b : ℕ) : Type 0 where
  pub within : b < t.geometry.blocks
  pub lowest : (j : ℕ) → IsBlank t j → b ≤ j

-- The table knows the blocks that begin erased, in the order in which they are allocated: nothing was programmed in them and no page of
-- them is committed, and one that has a tag, since its erase was cut, is the first. A block in which pages were programmed has the number
-- of its allocation.
pub record KnowsErased (flash : Flash) (t : Table) : Type 0 where
  pub unwritten : (b : ℕ) → b < t.geometry.blocks → BeginsErased flash b → IsUnwritten t b
  pub torn : (b l : ℕ) (u : Tag) → BeginsErased flash b → HasTag flash b l u → IsFirstBlank t b
  pub aged : (b : ℕ) → 1 ≤ (t.entry b).next → 1 ≤ (t.entry b).seq

-- The block that may have a checkpoint goes first of those that begin erased, and so does the open one before its first page.
pub record LeadsErased (flash : Flash) (t : Table) : Type 0 where
  pub noted : (c : ℕ) → t.checkpoint ≡ Some c → GoesFirst flash c
  pub opened : (o : ℕ) → t.open_block ≡ Some o → (t.entry o).next ≡ 0 → GoesFirst flash o

-- Of the blocks that begin erased the first alone has tags, and those go first that are next to be erased or written; and as long as the
-- device has power the table knows them all.
pub record TracksErased (device : Device) (t : Table) : Type 0 where
  pub first : OnlyFirstHasTags device.flash
  pub leads : LeadsErased device.flash t
  pub known : device.gone ≡ false → KnowsErased device.flash t

-- on an honest device that is so still, wherever the power was lost, if it was so before
abbrev pub KeepsErased : Device → Device → Table → Table → Type 0
KeepsErased old new t t' = old.honest ≡ true → TracksErased old t → TracksErased new t'
