-- What contracts say of a log at one moment, and what its calls keep.
-- From: this project.
use Rattle.std.specs.Prelude.{◌≡◌, ◌≤◌, ℕ, Option, ◌<◌, false}
use Rattle.nand_model.specs.declared.nand.Nand.{Ghosts}
use Rattle.block_state.specs.Committed.{bad_count}
use Rattle.block_state.specs.TableOf.{table}
use Rattle.transactions.specs.Checking.{LogState, log_of}
use Rattle.flash_log.specs.Snapshots.{Snapshot}
use Rattle.flash_log.specs.Steps.{Step}
use Rattle.flash_log.specs.declared.log.Log.{Log}

-- the state of the device of a log, and of the table of its blocks
abbrev pub log_state : {N : Type 0} {nand : Ghosts N} → Log N nand → LogState
log_state {N} {nand} log = log_of (nand.state log.device) (table log.blocks)

-- no more blocks are bad than there are to spare
abbrev pub HasReserve : {N : Type 0} {nand : Ghosts N} → Log N nand → Type 0
HasReserve log = bad_count (table log.blocks) ≤ log.spare

-- What every call of a log keeps while what is committed stays.
abbrev pub Moves : {N : Type 0} {nand : Ghosts N} → Log N nand → Log N nand → Type 0
Moves old new = Step old.spare (log_state old) (log_state new) old.index new.index

-- How many blocks may be bad, and the flash with which a log began, if that is remembered.
pub record Terms : Type 0 where
  pub spare : ℕ
  pub first : Option Snapshot

-- those of a log
abbrev pub terms_of : {N : Type 0} {nand : Ghosts N} → Log N nand → Terms
terms_of log = record { spare = log.spare; first = log.origin.first }

-- as many blocks may be bad, and the same flash is remembered
pub record SameTerms (old new : Terms) : Type 0 where
  pub spare : new.spare ≡ old.spare
  pub first : new.first ≡ old.first

-- the block lies on the device, and is not marked
pub record IsGoodBlock (block : ℕ) (log : LogState) : Type 0 where
  pub within : block < log.device.geometry.blocks
  pub good : (log.table.entry block).bad ≡ false
