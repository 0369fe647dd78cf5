-- The taking of a block.
use Rattle.std.specs.Prelude.{◌≡◌, ◌⊎◌, ℕ, ◌+◌, Some, None, ◌≢◌, ◌<◌, false}
use Rattle.block_state.specs.Table.{Table, Sets}
use Rattle.volume_terms.specs.Sizes.{number_end}
use Rattle.nand_model.specs.Calls.{Device}

-- the block is the open one, with the next number and all its pages, and there is no checkpoint any more
pub record Opens (block : ℕ) (old new : Table) : Type 0 where
  pub sets : Sets block (record (old.entry block) { seq = old.next_seq; next = 0 }) old new
  pub open_block : new.open_block ≡ Some block
  pub checkpoint : new.checkpoint ≡ None
  pub next_seq : new.next_seq ≡ old.next_seq + 1

-- an erase or a mark may come to this block: no other one may have a whole checkpoint
abbrev pub MayLose : ℕ → Table → Type 0
MayLose block t = (t.checkpoint ≡ None) ⊎ (t.checkpoint ≡ Some block)

-- The block can be erased and opened: it lies on the device, is good and not open, no other one may have a whole checkpoint, and there
-- is a number for it.
pub record CanOpen (block : ℕ) (device : Device) (table : Table) : Type 0 where
  pub within : block < device.geometry.blocks
  pub good : (table.entry block).bad ≡ false
  pub closed : table.open_block ≢ Some block
  pub first : MayLose block table
  pub seq : table.next_seq < number_end
