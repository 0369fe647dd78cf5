-- The making of room in the open block.
-- From: this project.
use Rattle.std.specs.Prelude.{◌≡◌, ◌⊎◌, ◌<◌, ◌≤◌, ℕ, ◌+◌, false, Some, Result, Ok, Err}
use Rattle.volume_terms.specs.Sizes.{number_end}
use Rattle.nand_model.specs.Calls.{Device}
use Rattle.nand_model.specs.Counts.{Costs}
use Rattle.nand_model.specs.declared.nand.Nand.{Ghosts}
use Rattle.block_state.specs.Committed.{bad_count, uncommitted_count, HasSpare, IsScarce}
use Rattle.block_state.specs.Table.{Table, IsFewest, room}
use Rattle.chunk_index.specs.declared.index.Index.{Index}
use Rattle.transactions.specs.Checking.{LogState}
use Rattle.flash_log.specs.Bills.{Pays, bill_of}
use Rattle.flash_log.specs.LogOf.{log_state}
use Rattle.flash_log.specs.Moving.{MovesOut, WhyNotMoved}
use Rattle.flash_log.specs.SummarySource.{summary_size}
use Rattle.flash_log.specs.Consistency.{HasFreeBlocks}
use Rattle.flash_log.specs.declared.fault.MoveFault.{MoveFault}
use Rattle.flash_log.specs.declared.fault.MoveFault.TheVariants as moves
use Rattle.flash_log.specs.declared.log.Log.{Log}
use Rattle.flash_log.specs.declared.room_fault.RoomFault.{RoomFault}
use Rattle.flash_log.specs.declared.room_fault.RoomFault.TheVariants as faults

-- With the committed pages spread over all blocks that are not to spare but one, each has room for so many besides.
abbrev pub LeavesRoom : Table → (spare count : ℕ) → Type 0
LeavesRoom t spare count = (most : ℕ) × (most + count ≤ t.geometry.pages) × HasSpare t spare most

-- the block to be collected: the one with the fewest committed pages, which leave room for so many
pub record IsVictim (count : ℕ) (t : Table) (v : ℕ) : Type 0 where
  pub fewest : IsFewest t t.geometry.blocks v
  pub leaves : (t.entry v).committed + count ≤ t.geometry.pages

-- more good blocks are without a committed page than may be needed for retirements, and one for a collection
abbrev pub HasMore : Table → (spare : ℕ) → Type 0
HasMore t spare = 1 + spare < uncommitted_count t + bad_count t

-- Committed pages lie where they lay; or, where no block without a committed page can be taken, those of the block with the fewest
-- were moved.
abbrev pub MovesFewest : (spare : ℕ) → Table → Index → Index → Type 0
MovesFewest spare t x x' = (x' ≡ x) ⊎ (IsScarce t spare × ((v : ℕ) × IsFewest t t.geometry.blocks v × MovesOut v x x'))

-- What was committed in block v lies in the open block, to which nothing else was written, and v keeps nothing, or it is that block. No more
-- blocks are bad than there are to spare, and blocks enough are free.
pub record IsCollected (v spare : ℕ) (old new : Table) : Type 0 where
  pub opened : (w : ℕ) × (new.open_block ≡ Some w) × ((new.entry w).next ≡ (old.entry v).committed)
  pub left : ((new.entry v).committed ≡ 0) ⊎ (new.open_block ≡ Some v)
  pub within_limit : bad_count new ≤ spare
  pub free : HasFreeBlocks new spare

-- how the collection of block v ends
abbrev pub CollectEnds : (v spare : ℕ) → Device → Table → Table → Result (Unit {0}) MoveFault → Type 0
CollectEnds v spare device old new (Ok done) = IsCollected v spare old new × (device.gone ≡ false)
CollectEnds v spare device old new (Err fault) = WhyNotMoved spare device new fault

-- so many pages can still be written in the open block
abbrev pub FitsOpen : (count : ℕ) → Table → Type 0
FitsOpen count t = count ≤ room t

-- a number for a group is left, if one was
abbrev pub LeavesNumber : Table → Table → Type 0
LeavesNumber old new = old.next_group < number_end → new.next_group < number_end

-- The open block has room for so many pages, and where a block could be allocated a number is left for their group. No more blocks are bad
-- than there are to spare, and where blocks enough were free they are. A device that had power has it.
pub record HasRoom (count spare : ℕ) (old new : LogState) : Type 0 where
  pub fits : FitsOpen count new.table
  pub number : HasMore old.table spare → LeavesNumber old.table new.table
  pub within_limit : bad_count new.table ≤ spare
  pub free : HasFreeBlocks old.table spare → HasFreeBlocks new.table spare
  pub power : old.device.gone ≡ false → new.device.gone ≡ false

-- Why no room was made: too much is committed; or as with a move.
abbrev pub WhyNoRoom : (count spare : ℕ) → Device → Table → Table → RoomFault → Type 0
WhyNoRoom count spare device old new faults.Full = LeavesRoom old spare count → ⊥
WhyNoRoom count spare device old new faults.Worn = WhyNotMoved spare device new moves.Worn
WhyNoRoom count spare device old new faults.Lost = WhyNotMoved spare device new moves.Lost
WhyNoRoom count spare device old new faults.Gone = WhyNotMoved spare device new moves.Gone

-- how the making of room ends
abbrev pub RoomEnds : (count spare : ℕ) → LogState → LogState → Result (Unit {0}) RoomFault → Type 0
RoomEnds count spare old new (Ok done) = HasRoom count spare old new
RoomEnds count spare old new (Err fault) = WhyNoRoom count spare new.device old.table new.table fault

-- nothing changed
pub record StaysWhole {N : Type 0} {nand : Ghosts N} (old new : Log N nand) : Type 0 where
  pub log : log_state new ≡ log_state old
  pub index : new.index ≡ old.index

-- where too much is committed nothing changed
abbrev pub StaysWhereFull : {N : Type 0} {nand : Ghosts N} → Log N nand → Log N nand → Result (Unit {0}) RoomFault → Type 0
StaysWhereFull old new (Ok done) = Unit {0}
StaysWhereFull old new (Err faults.Full) = StaysWhole old new
StaysWhereFull old new (Err faults.Worn) = Unit {0}
StaysWhereFull old new (Err faults.Lost) = Unit {0}
StaysWhereFull old new (Err faults.Gone) = Unit {0}

-- so many changes, and for each failure an erase, the pages of a block and a mark
abbrev pub CostsUpTo : (changes : ℕ) → Device → Device → Type 0
CostsUpTo changes old new = Costs changes (old.geometry.pages + 2) 0 old new

-- What the making of room costs: an erase and the pages of a block at most. But for failures, an erase and a summary are enough while
-- blocks are left that can be allocated; else each page that is committed in the block with the fewest is programmed besides.
pub record PaysRoom (spare : ℕ) (old new : LogState) (result : Result (Unit {0}) RoomFault) : Type 0 where
  pub pays : Pays (bill_of old (old.device.geometry.pages + 1) 0 0) old new result
  pub fewest : IsScarce old.table spare → (v : ℕ) → IsFewest old.table old.table.geometry.blocks v → CostsUpTo ((old.table.entry v).committed + summary_size old.device.geometry + 1) old.device new.device
  pub takes : HasMore old.table spare → CostsUpTo (summary_size old.device.geometry + 1) old.device new.device
