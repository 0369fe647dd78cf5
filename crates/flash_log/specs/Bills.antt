-- What calls of the log cost.
-- From: this project.
use Rattle.std.specs.Prelude.{◌≡◌, ℕ, ◌+◌, Option, Result, OnOk}
use Rattle.nand_model.specs.Counts.{Costs, ReadsFew, unfinished}
use Rattle.transactions.specs.Checking.{LogState}
use Rattle.flash_log.specs.Copying.{as_copied, left_open, most_changes, most_written}
use Rattle.flash_log.specs.Moving.{AnswersFailures, MarksFailures, unanswered}
use Rattle.flash_log.specs.Retiring.{open_failures}
use Rattle.flash_log.specs.Taking.{CostsATake}
use Rattle.flash_log.specs.declared.copying.Copied.{Copied}
use Rattle.flash_log.specs.declared.copying.Target.{Target}
use Rattle.flash_log.specs.declared.fault.MoveFault.{MoveFault}
use Rattle.flash_log.specs.declared.moving.Moved.{Moved}
use Rattle.flash_log.specs.declared.take.TakeFault.{TakeFault}

-- What a call may cost: so many changes of the device, and so many more for each failure; so many marks that answer no failure, and
-- failures that no mark has answered yet.
pub record Bill : Type 0 where
  pub changes : ℕ
  pub each : ℕ
  pub marks : ℕ
  pub unanswered : ℕ

-- The device counts no more changes than the bill has. Each mark but those of the bill answers a failure, and after Ok each failure but
-- those of the bill has its mark. It reads no more pages than it counts changes and failures, and one after a fault.
pub record Pays {T E : Type 0} (bill : Bill) (old new : LogState) (result : Result T E) : Type 0 where
  pub costs : Costs bill.changes bill.each bill.unanswered old.device new.device
  pub marks : MarksFailures bill.marks bill.unanswered old.device new.device old.table new.table
  pub answers : OnOk result (AnswersFailures bill.marks bill.unanswered old.device new.device old.table new.table)
  pub reads : ReadsFew (unfinished result) old.device new.device

-- so many changes, and for each failure an erase, the pages of a block and a mark
abbrev pub bill_of : LogState → (changes marks unanswered : ℕ) → Bill
bill_of log changes marks unanswered = record { changes = changes; each = log.device.geometry.pages + 2; marks = marks; unanswered = unanswered }

-- What the allocation of a block costs: an erase, and an erase and a mark for each failure, and no read. After Ok each failure has its mark.
pub record PaysAllocation (old new : LogState) (result : Result ℕ TakeFault) : Type 0 where
  pub costs : CostsATake old.device new.device
  pub reads : new.device.reads ≡ old.device.reads
  pub answers : OnOk result (AnswersFailures 0 0 old.device new.device old.table new.table)

-- the writing of so many copies into the open block: a program for each, and for each failure the pages of a block and a mark
abbrev pub PaysWriting : (count : ℕ) → LogState → LogState → Result Copied MoveFault → Type 0
PaysWriting count old new result =
    Pays (record { changes = most_written count result; each = old.device.geometry.pages + 1; marks = 0; unanswered = left_open result }) old new result

-- the same into a block that is taken
abbrev pub PaysOneBlock : (count : ℕ) → LogState → LogState → Result Copied MoveFault → Type 0
PaysOneBlock count old new result = Pays (bill_of old (most_changes count result) 0 (left_open result)) old new result

-- the same into the first block in which that does not fail
abbrev pub PaysTarget : (count : ℕ) → LogState → LogState → Result Target MoveFault → Type 0
PaysTarget count old new result = Pays (bill_of old (count + 1) 0 (left_open (as_copied result))) old new result

-- the move of so many pages: an erase, and a program for each page
abbrev pub PaysCopies : (count : ℕ) → LogState → LogState → Result Moved MoveFault → Type 0
PaysCopies count old new result = Pays (bill_of old (count + 1) 0 (unanswered result)) old new result

-- of what is committed in block v
abbrev pub PaysMove : (v : ℕ) → LogState → LogState → Result Moved MoveFault → Type 0
PaysMove v old new result = PaysCopies (old.table.entry v).committed old new result

-- the same, where nothing is left unanswered
abbrev pub PaysCollection : (v : ℕ) → LogState → LogState → Result (Unit {0}) MoveFault → Type 0
PaysCollection v old new result = Pays (bill_of old ((old.table.entry v).committed + 1) 0 0) old new result

-- the move of what is committed in any block
abbrev pub PaysEmptying : LogState → LogState → Result (Option ℕ) MoveFault → Type 0
PaysEmptying old new result = Pays (bill_of old (old.device.geometry.pages + 1) 0 (open_failures result)) old new result

-- the same, and the mark of the block, which answers no failure
abbrev pub PaysOut : LogState → LogState → Result (Option ℕ) MoveFault → Type 0
PaysOut old new result = Pays (bill_of old (old.device.geometry.pages + 2) 1 (open_failures result)) old new result

-- a retirement: the same, and what each suspect copy costs
abbrev pub PaysRetirement : LogState → LogState → Result (Unit {0}) MoveFault → Type 0
PaysRetirement old new result = Pays (bill_of old (old.device.geometry.pages + 2) 1 0) old new result
