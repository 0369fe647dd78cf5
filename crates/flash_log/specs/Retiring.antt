-- The retirement of a block.
-- From: this project.
use Rattle.std.specs.Prelude.{◌≡◌, ◌<◌, ◌≤◌, ℕ, true, false, Option, Some, None, Result, Ok, Err, ◌+◌, IfErr}
use Rattle.nand_model.specs.Calls.{Device}
use Rattle.block_state.specs.Committed.{bad_count}
use Rattle.block_state.specs.Table.{Table}
use Rattle.flash_log.specs.Moving.{LiesOpen, IsAway, IsLeft, WhyNotMoved}
use Rattle.flash_log.specs.Consistency.{HasFreeBlocks}
use Rattle.flash_log.specs.declared.fault.MoveFault.{MoveFault}
use Rattle.flash_log.specs.declared.fault.MoveFault.TheVariants as faults
use Rattle.transactions.specs.Checking.{LogState}

-- The good block holds no committed page: it held none, and no block is open; or its pages lie elsewhere.
pub record IsEmptied (v : ℕ) (old new : Table) (suspect : Option ℕ) : Type 0 where
  pub left : IsLeft v new
  pub was_empty : (old.entry v).committed ≡ 0 → (new.open_block ≡ None) × (suspect ≡ None)
  pub moved : 1 ≤ (old.entry v).committed → IsAway v old new suspect

abbrev pub EmptyEnds : (v spare : ℕ) → Device → Table → Table → Result (Option ℕ) MoveFault → Type 0
EmptyEnds v spare device old new (Ok suspect) = IsEmptied v old new suspect
EmptyEnds v spare device old new (Err fault) = WhyNotMoved spare device new fault

-- a suspect copy is a failure that no mark has answered yet
abbrev pub open_failures : Result (Option ℕ) MoveFault → ℕ
open_failures (Ok None) = 0
open_failures (Ok (Some w)) = 1
open_failures (Err fault) = 0

-- The block is bad and holds no committed page; what it held, if anything, lies in the open block, to which nothing else was
-- written. More blocks are bad than before, but no more than there are to spare, and blocks enough are free.
pub record IsRetired (v spare : ℕ) (old new : Table) : Type 0 where
  pub bad : (new.entry v).bad ≡ true
  pub uncommitted : (new.entry v).committed ≡ 0
  pub moved : 1 ≤ (old.entry v).committed → (w : ℕ) × LiesOpen v w old new
  pub within_limit : bad_count new ≤ spare
  pub more : bad_count old < bad_count new
  pub free : HasFreeBlocks new spare

-- how a retirement ends
abbrev pub RetireEnds : (v spare : ℕ) → Device → Table → Table → Result (Unit {0}) MoveFault → Type 0
RetireEnds v spare device old new (Ok done) = IsRetired v spare old new × (device.gone ≡ false)
RetireEnds v spare device old new (Err fault) = WhyNotMoved spare device new fault

-- why a block without a committed page is not retired: the device is gone, or more blocks are bad than there are to spare
abbrev pub WhyNotMarked : (spare : ℕ) → Device → Table → MoveFault → Type 0
WhyNotMarked spare device t faults.Worn = (spare < bad_count t) × (device.gone ≡ false)
WhyNotMarked spare device t faults.Lost = ⊥
WhyNotMarked spare device t faults.Gone = device.gone ≡ true

-- how the mark of an emptied block ends
abbrev pub MarkedEnds : (v spare : ℕ) → Device → Table → Result (Unit {0}) MoveFault → Type 0
MarkedEnds v spare device new (Ok done) = ((new.entry v).bad ≡ true) × (bad_count new ≤ spare) × (device.gone ≡ false)
MarkedEnds v spare device new (Err fault) = WhyNotMarked spare device new fault

-- The block is bad and holds no committed page; what it held, if anything, lies elsewhere. One more block is bad.
pub record IsOut (v spare : ℕ) (old new : Table) (suspect : Option ℕ) : Type 0 where
  pub bad : (new.entry v).bad ≡ true
  pub uncommitted : (new.entry v).committed ≡ 0
  pub was_empty : (old.entry v).committed ≡ 0 → (new.open_block ≡ None) × (suspect ≡ None)
  pub moved : 1 ≤ (old.entry v).committed → IsAway v old new suspect
  pub within_limit : bad_count new ≤ spare
  pub more : bad_count old < bad_count new

abbrev pub OneEnds : (v spare : ℕ) → Device → Table → Table → Result (Option ℕ) MoveFault → Type 0
OneEnds v spare device old new (Ok suspect) = IsOut v spare old new suspect × (device.gone ≡ false)
OneEnds v spare device old new (Err fault) = WhyNotMoved spare device new fault

-- An empty block is marked, nothing else is changed, and no number is needed for it.
pub record MarksAlone {T : Type 0} (spare : ℕ) (old new : LogState) (result : Result T MoveFault) : Type 0 where
  pub changes : new.device.changes ≤ old.device.changes + 1
  pub why : IfErr result (WhyNotMarked spare new.device new.table)
