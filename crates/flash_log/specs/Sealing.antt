-- How the writing of a checkpoint ends.
-- From: this project.
use Rattle.std.specs.Prelude.{◌≡◌, ◌⊎◌, ◌<◌, ℕ, false, None, Result, Ok, Err}
use Rattle.chunk_index.specs.declared.index.Index.{Index}
use Rattle.transactions.specs.Checking.{LogState}
use Rattle.flash_log.specs.declared.take.TakeFault.{TakeFault}
use Rattle.flash_log.specs.declared.take.TakeFault.TheVariants as takes
use Rattle.flash_log.specs.CheckpointDue.{IsDue}
use Rattle.flash_log.specs.CheckpointWriting.{HasCheckpoint, WhyNotSealed}
use Rattle.flash_log.specs.declared.seal_fault.SealFault.{SealFault}
use Rattle.flash_log.specs.declared.seal_fault.SealFault.TheVariants as faults

-- the same reason
abbrev pub seal_fault : TakeFault → SealFault
seal_fault takes.Worn = faults.Worn
seal_fault takes.Gone = faults.Gone

-- the device has power, and the checkpoint is there; or the device had a failure, and no block may have one
abbrev pub LeavesOne : Index → LogState → LogState → Type 0
LeavesOne x old new = (new.device.gone ≡ false) × (HasCheckpoint x new ⊎ ((new.table.checkpoint ≡ None) × (old.device.failures < new.device.failures)))

-- how the writing of a checkpoint into a block that was taken for it ends
abbrev pub IntoEnds : (spare : ℕ) → Index → LogState → LogState → Result (Unit {0}) SealFault → Type 0
IntoEnds spare x old new (Ok done) = LeavesOne x old new
IntoEnds spare x old new (Err fault) = WhyNotSealed spare new fault

-- How it ends: where no checkpoint is due nothing is done, and where one is due it is written, or there is a reason why not.
abbrev pub SealEnds : (spare : ℕ) → Index → LogState → LogState → Result (Unit {0}) SealFault → Type 0
SealEnds spare x old new (Ok done) = ((IsDue spare old.table → ⊥) × (new ≡ old)) ⊎ (IsDue spare old.table × LeavesOne x old new)
SealEnds spare x old new (Err fault) = IsDue spare old.table × WhyNotSealed spare new fault
