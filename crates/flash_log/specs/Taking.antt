-- The taking of a block.
-- From: this project.
use Rattle.std.specs.Prelude.{◌≡◌, ◌⊎◌, ◌<◌, ◌≤◌, ℕ, ◌+◌, ◌*◌, true, false, Some, None, Result, Ok, Err}
use Rattle.volume_terms.specs.Sizes.{number_end}
use Rattle.nand_model.specs.Calls.{Device}
use Rattle.nand_model.specs.declared.nand.Gone.{Gone}
use Rattle.block_state.specs.Committed.{bad_count, uncommitted_count}
use Rattle.block_state.specs.Table.{Table, turn_of}
use Rattle.flash_tree.specs.Numbering.{AreBelow}
use Rattle.flash_log.specs.declared.take.TakeFault.{TakeFault}
use Rattle.flash_log.specs.declared.take.TakeFault.TheVariants as faults
use Rattle.flash_log.specs.declared.take.Tried.{Tried}
use Rattle.flash_log.specs.declared.take.Tried.TheVariants as tries

-- No committed page lies in the block that may have a checkpoint.
abbrev pub LiesApart : Table → Type 0
LiesApart t = (c : ℕ) → t.checkpoint ≡ Some c → (t.entry c).committed ≡ 0

-- No more blocks than there are to spare are bad, and with these so many are without a committed page as may be needed for
-- retirements, and one for a collection. The block that may have a checkpoint is one of those without a committed page.
pub record HasUncommitted (t : Table) (spare : ℕ) : Type 0 where
  pub bad : bad_count t ≤ spare
  pub uncommitted : 1 + spare ≤ uncommitted_count t + bad_count t
  pub apart : LiesApart t

-- The block was good and without a committed page. It is the open one, with all its pages and the next number, which is above
-- those of all tags.
pub record Takes (block : ℕ) (device : Device) (old new : Table) : Type 0 where
  pub within : block < old.geometry.blocks
  pub good : (old.entry block).bad ≡ false
  pub uncommitted : (old.entry block).committed ≡ 0
  pub open_block : new.open_block ≡ Some block
  pub next : (new.entry block).next ≡ 0
  pub seq : (new.entry block).seq ≡ old.next_seq
  pub next_seq : new.next_seq ≡ old.next_seq + 1
  pub below : device.honest ≡ true → AreBelow device.flash old.next_group old.next_seq

-- the block was without a committed page, and is good afterwards
pub record CouldBeTaken (old new : Table) (k : ℕ) : Type 0 where
  pub within : k < old.geometry.blocks
  pub uncommitted : (old.entry k).committed ≡ 0
  pub good : (new.entry k).bad ≡ false

-- no block that may have a checkpoint could be taken: there was none, or it went bad
abbrev pub NoneGoesFirst : Table → Table → Type 0
NoneGoesFirst old new = (c : ℕ) → old.checkpoint ≡ Some c → (new.entry c).bad ≡ true

-- It was the block's turn. The block that may have a checkpoint goes first, unless it went bad. Else no turn of those that could be
-- allocated came before, and of those that came at once, in which nothing was programmed since they were erased, it is the first.
pub record IsItsTurn (block : ℕ) (old new : Table) : Type 0 where
  pub first : (c : ℕ) → old.checkpoint ≡ Some c → (new.entry c).bad ≡ false → block ≡ c
  pub oldest : NoneGoesFirst old new → (k : ℕ) → CouldBeTaken old new k → turn_of (old.entry block) ≤ turn_of (old.entry k)
  pub lowest : NoneGoesFirst old new → (k : ℕ) → CouldBeTaken old new k → turn_of (old.entry k) ≡ turn_of (old.entry block) → block ≤ k

-- Each block has its turn, and the block that may have a checkpoint is the same, or it went bad.
pub record SameTurns (old new : Table) : Type 0 where
  pub turns : (b : ℕ) → turn_of (new.entry b) ≡ turn_of (old.entry b)
  pub noted : (c : ℕ) → old.checkpoint ≡ Some c → (new.checkpoint ≡ Some c) ⊎ ((new.entry c).bad ≡ true)
  pub from : (c : ℕ) → new.checkpoint ≡ Some c → old.checkpoint ≡ Some c

-- no block is open, and no number was used
pub record TakesNone (old new : Table) : Type 0 where
  pub open_block : new.open_block ≡ None
  pub next_seq : new.next_seq ≡ old.next_seq

-- How the trying of one block ends: it is taken; its erase failed and it is marked; or the device is gone.
abbrev pub TriesOne : Device → Table → Table → Result Tried Gone → Type 0
TriesOne device old new (Ok (tries.Taken block)) = Takes block device old new × (device.gone ≡ false)
TriesOne device old new (Ok tries.Marked) = TakesNone old new × (bad_count new ≡ bad_count old + 1) × (device.gone ≡ false)
TriesOne device old new (Err gone) = TakesNone old new × (device.gone ≡ true)

-- a block that is taken was at its turn, and the mark of one leaves the turns of the others
abbrev pub TakesTurn : Table → Table → Result Tried Gone → Type 0
TakesTurn old new (Ok (tries.Taken block)) = IsItsTurn block old new
TakesTurn old new (Ok tries.Marked) = SameTurns old new
TakesTurn old new (Err gone) = Unit {0}

-- where a block is taken, as many are bad as before
abbrev pub AsManyBad : Table → Table → Result Tried Gone → Type 0
AsManyBad old new (Ok (tries.Taken block)) = bad_count new ≡ bad_count old
AsManyBad old new (Ok tries.Marked) = Unit {0}
AsManyBad old new (Err gone) = Unit {0}

-- Why no block was taken: more are bad than there are to spare, after a mark of this call, or no number is left; or the
-- device is gone.
abbrev pub WhyNone : (spare : ℕ) → Device → Table → Table → TakeFault → Type 0
WhyNone spare device old new faults.Worn = (number_end ≤ old.next_seq) ⊎ ((spare < bad_count new) × (device.gone ≡ false))
WhyNone spare device old new faults.Gone = device.gone ≡ true

-- how the taking of a block ends
abbrev pub TakeEnds : (spare : ℕ) → Device → Table → Table → Result ℕ TakeFault → Type 0
TakeEnds spare device old new (Ok block) = Takes block device old new × (device.gone ≡ false)
TakeEnds spare device old new (Err fault) = TakesNone old new × WhyNone spare device old new fault

-- the device counts one change at most, an erase, and two for each failure, an erase and a mark
abbrev pub CostsATake : Device → Device → Type 0
CostsATake old new = new.changes + 2 * old.failures ≤ old.changes + 2 * new.failures + 1

-- the same of one block: one that was marked had its failure
abbrev pub CostsATry : Device → Device → Result Tried Gone → Type 0
CostsATry old new (Ok (tries.Taken block)) = CostsATake old new
CostsATry old new (Ok tries.Marked) = new.changes + 2 * old.failures ≤ old.changes + 2 * new.failures
CostsATry old new (Err gone) = CostsATake old new

-- The block was taken in its turn, and no more blocks are bad than there are to spare.
pub record IsTaken (block spare : ℕ) (old new : Table) : Type 0 where
  pub turn : IsItsTurn block old new
  pub bad : bad_count new ≤ spare

-- what the taking of a block costs, all of it without a read
pub record PaysTake (old new : Device) : Type 0 where
  pub changes : CostsATake old new
  pub reads : new.reads ≡ old.reads
