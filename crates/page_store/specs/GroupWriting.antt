-- How the buffered pages are written as one group.
use Rattle.std.specs.Prelude.{◌≡◌, ◌<◌, ◌≤◌, ◌+◌, ℕ, true, false, [], length, Some, Result, Ok, Err, IsOk, OnOk}
use Rattle.nand_model.specs.Calls.{Device}
use Rattle.nand_model.specs.Counts.{ReadsBeside}
use Rattle.block_state.specs.Committed.{bad_count}
use Rattle.transactions.specs.Checking.{LogState}
use Rattle.flash_log.specs.Bills.{Pays, bill_of}
use Rattle.flash_log.specs.Consistency.{HasFreeBlocks, IsConsistentLog}
use Rattle.flash_log.specs.Steps.{Step}
use Rattle.flash_log.specs.RoomMaking.{WhyNoRoom}
use Rattle.flash_log.specs.declared.room_fault.RoomFault.{RoomFault}
use Rattle.flash_log.specs.declared.room_fault.RoomFault.TheVariants as faults
use Rattle.page_store.specs.declared.group_writing.Attempt.{Attempt}
use Rattle.page_store.specs.declared.group_writing.Attempt.TheVariants as attempts
use Rattle.page_store.specs.declared.turn.Turn.{Turn}
use Rattle.page_store.specs.declared.turn.Turn.TheVariants as turns
use Rattle.page_store.specs.Buffered.{BufferedLog}
use Rattle.page_store.specs.Committing.{IsUnhindered, KeepsOpen, StaysOpen, TakesNoBlock, TakesOneBlock}
use Rattle.page_store.specs.CommitKeeping.{Commits, IsAnswered, Leaves}

-- the buffered pages are valid and the buffer is empty, blocks enough are free, and the device has power
pub record IsWhole (spare : ℕ) (old new : BufferedLog) : Type 0 where
  pub commits : Commits spare old new
  pub empty : new.pages ≡ []
  pub last : new.last ≡ old.pages
  pub free : HasFreeBlocks new.log.table spare
  pub power : new.log.device.gone ≡ false

-- no buffered page is valid, all are buffered still, and the device has power
pub record IsWaiting (spare : ℕ) (old new : BufferedLog) : Type 0 where
  pub step : Step spare old.log new.log old.index new.index
  pub pages : new.pages ≡ old.pages
  pub power : new.log.device.gone ≡ false

-- the block that was open, which is good
pub record WasOpen (w : ℕ) (old new : LogState) : Type 0 where
  pub within : w < new.device.geometry.blocks
  pub good : (new.table.entry w).bad ≡ false
  pub was : old.table.open_block ≡ Some w

-- how the writing of the group ends
abbrev pub AttemptEnds : (spare : ℕ) → BufferedLog → BufferedLog → Result Attempt RoomFault → Type 0
AttemptEnds spare old new (Ok attempts.Trusted) = IsWhole spare old new × (new.log.device.failures ≡ old.log.device.failures)
AttemptEnds spare old new (Ok (attempts.Suspect w)) = IsWhole spare old new × WasOpen w old.log new.log
AttemptEnds spare old new (Ok (attempts.Failed w)) = IsWaiting spare old new × WasOpen w old.log new.log
AttemptEnds spare old new (Err faults.Full) = ⊥
AttemptEnds spare old new (Err faults.Worn) = ⊥
AttemptEnds spare old new (Err faults.Lost) = new.log.device.honest ≡ false
AttemptEnds spare old new (Err faults.Gone) = new.log.device.gone ≡ true

-- what an attempt leaves and how it ends, with however many blocks to spare, where blocks enough were free
abbrev pub Attempts : BufferedLog → BufferedLog → Result Attempt RoomFault → Type 0
Attempts old new result = (spare : ℕ) → IsConsistentLog spare old.log.device old.log.table old.index → HasFreeBlocks old.log.table spare → Leaves spare old new × AttemptEnds spare old new result

-- a failed group and a suspect one are a failure that no mark has answered yet
abbrev pub unanswered : Result Attempt RoomFault → ℕ
unanswered (Ok attempts.Trusted) = 0
unanswered (Ok (attempts.Suspect w)) = 1
unanswered (Ok (attempts.Failed w)) = 1
unanswered (Err fault) = 0

-- where so many pages are valid none of them was written with a read
abbrev pub QuietAttempt : (count : ℕ) → Device → Device → Result Attempt RoomFault → Type 0
QuietAttempt count old new (Ok attempts.Trusted) = ReadsBeside count old new
QuietAttempt count old new (Ok (attempts.Suspect w)) = ReadsBeside count old new
QuietAttempt count old new (Ok (attempts.Failed w)) = Unit {0}
QuietAttempt count old new (Err fault) = Unit {0}

-- What an attempt costs: the programs of the pages, and a mark for a failure.
pub record PaysAttempt (count : ℕ) (old new : LogState) (result : Result Attempt RoomFault) : Type 0 where
  pub pays : Pays (bill_of old count 0 (unanswered result)) old new result
  pub quiet : QuietAttempt count old.device new.device result

-- a trusted group leaves its block open
abbrev pub TrustsOpen : (count : ℕ) → LogState → LogState → Result Attempt RoomFault → Type 0
TrustsOpen count old new (Ok attempts.Trusted) = StaysOpen count old.table new.table
TrustsOpen count old new (Ok (attempts.Suspect w)) = Unit {0}
TrustsOpen count old new (Ok (attempts.Failed w)) = Unit {0}
TrustsOpen count old new (Err fault) = Unit {0}

-- How a turn ends: the pages are valid; or not, and a block more is bad. No more blocks are bad than there are to spare, and the block in
-- which a program failed is among them.
abbrev pub TurnEnds : (spare : ℕ) → BufferedLog → BufferedLog → Result Turn RoomFault → Type 0
TurnEnds spare old new (Ok turns.Written) = IsWhole spare old new × (bad_count new.log.table ≤ spare) × IsAnswered spare old new
TurnEnds spare old new (Ok turns.Again) =
    IsWaiting spare old new × HasFreeBlocks new.log.table spare × (bad_count old.log.table < bad_count new.log.table) × (bad_count new.log.table ≤ spare) × (length old.pages ≤ new.log.device.geometry.pages)
TurnEnds spare old new (Err fault) = WhyNoRoom (length old.pages) spare new.log.device old.log.table new.log.table fault

-- where so many pages are valid none of them was written with a read
abbrev pub QuietTurn : (count : ℕ) → Device → Device → Result Turn RoomFault → Type 0
QuietTurn count old new (Ok turns.Written) = ReadsBeside count old new
QuietTurn count old new (Ok turns.Again) = Unit {0}
QuietTurn count old new (Err fault) = Unit {0}

-- What the writing of so many pages costs into a block that has room for them: their programs, and a retirement for each failure.
pub record PaysWriting (count : ℕ) (old new : LogState) (result : Result Turn RoomFault) : Type 0 where
  pub pays : Pays (bill_of old count 0 0) old new result
  pub quiet : QuietTurn count old.device new.device result

-- What a turn costs: the making of room besides. No block is allocated where the open one has room, and one at most while blocks are left
-- that can be allocated.
pub record PaysTurn (count spare : ℕ) (old new : LogState) (result : Result Turn RoomFault) : Type 0 where
  pub pays : Pays (bill_of old (old.device.geometry.pages + 1 + count) 0 0) old new result
  pub quiet : QuietTurn count old.device new.device result
  pub takes_none : TakesNoBlock count old new
  pub takes_one : TakesOneBlock count spare old new

-- without a failure the open block stays open; on an honest device that keeps its power nothing else can go wrong
pub record GoesWell {T E : Type 0} (count : ℕ) (old new : LogState) (result : Result T E) : Type 0 where
  pub stays_open : OnOk result (KeepsOpen count old new)
  pub unhindered : IsUnhindered count old new → IsOk result

-- how the writing ends, of as many turns as it takes
abbrev pub WholeEnds : (spare : ℕ) → BufferedLog → BufferedLog → Result (Unit {0}) RoomFault → Type 0
WholeEnds spare old new (Ok done) = IsWhole spare old new × (bad_count new.log.table ≤ spare) × IsAnswered spare old new
WholeEnds spare old new (Err fault) = WhyNoRoom (length old.pages) spare new.log.device old.log.table new.log.table fault
