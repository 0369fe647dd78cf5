-- How a commit ends.
use Rattle.std.specs.Prelude.{◌≡◌, ◌<◌, ◌≤◌, ◌+◌, ◌*◌, ℕ, true, false, [], length, Some, Result, Ok, Err, IsOk, OnOk}
use Rattle.volume_terms.specs.Sizes.{number_end}
use Rattle.block_state.specs.Committed.{bad_count}
use Rattle.block_state.specs.Table.{Table, room}
use Rattle.chunk_index.specs.declared.form.CommittedPage.{CommittedPage}
use Rattle.chunk_index.specs.Maps.{committed_pages}
use Rattle.page_store.specs.Buffering.{IsUnbuffered}
use Rattle.nand_model.specs.Counts.{Costs, ReadsFor}
use Rattle.transactions.specs.Checking.{LogState}
use Rattle.flash_log.specs.Bills.{Bill, Pays}
use Rattle.flash_log.specs.Moving.{AnswersFailures, MarksFailures}
use Rattle.flash_log.specs.Consistency.{HasFreeBlocks}
use Rattle.flash_log.specs.RoomMaking.{FitsOpen, HasMore, WhyNoRoom}
use Rattle.flash_log.specs.SummarySource.{summary_size}
use Rattle.flash_log.specs.declared.room_fault.RoomFault.{RoomFault}
use Rattle.pages.specs.Stores.{IsCarried, SamePages}
use Rattle.page_store.specs.Buffered.{BufferedLog, committed_map, current}
use Rattle.page_store.specs.CommitKeeping.{IsAnswered}

-- A commit that is done: the buffer is empty, and has the pages that it had as those that were written last; what was
-- current is committed, with its data, and what was dropped is not; an honest device carries the current pages.
-- No more blocks are bad than there are to spare, and blocks enough are free. A device that wrote has power, and no block
-- of which a program of the group failed is trusted.
pub record IsCommitted (spare : ℕ) (old new : BufferedLog) : Type 0 where
  pub unbuffered : IsUnbuffered new.index
  pub empty : new.pages ≡ []
  pub last : new.last ≡ old.pages
  pub committed : old.log.device.honest ≡ true → SamePages (committed_map new) (current old)
  pub present : old.log.device.honest ≡ true → SamePages (current new) (current old)
  pub newest : old.log.device.honest ≡ true → IsCarried old.log.device spare (committed_map old) → IsCarried new.log.device spare (current old)
  pub within_limit : bad_count new.log.table ≤ spare
  pub free : HasFreeBlocks new.log.table spare
  pub power : 1 ≤ length old.pages → new.log.device.gone ≡ false
  pub answered : 1 ≤ length old.pages → IsAnswered spare old new

-- How a commit ends: done; or not, for lack of room for so many pages in one block, or as where committed pages are not moved.
abbrev pub CommitEnds : (spare : ℕ) → BufferedLog → BufferedLog → Result (Unit {0}) RoomFault → Type 0
CommitEnds spare old new (Ok done) = IsCommitted spare old new
CommitEnds spare old new (Err fault) = WhyNoRoom (length old.pages) spare new.log.device old.log.table new.log.table fault

-- Where the open block has room for so many pages, and there is no failure, the device counts no more changes than one for
-- each of them: no block is allocated.
abbrev pub TakesNoBlock : (count : ℕ) → LogState → LogState → Type 0
TakesNoBlock count old new = FitsOpen count old.table → new.device.failures ≡ old.device.failures → new.device.changes ≤ old.device.changes + count

-- the open block is the same, with so many pages less
pub record StaysOpen (count : ℕ) (t t' : Table) : Type 0 where
  pub open_block : t'.open_block ≡ t.open_block
  pub pages : room t' + count ≡ room t

-- where the open block has room for so many pages, and there is no failure, it stays open
abbrev pub KeepsOpen : (count : ℕ) → LogState → LogState → Type 0
KeepsOpen count old new = FitsOpen count old.table → new.device.failures ≡ old.device.failures → StaysOpen count old.table new.table

-- Nothing hinders the writing of so many pages: the open block has room for them, a number is left for their group, and the
-- device is honest, counts no failure and has power to the end.
pub record IsUnhindered (count : ℕ) (old new : LogState) : Type 0 where
  pub fits : FitsOpen count old.table
  pub number : old.table.next_group < number_end
  pub honest : old.device.honest ≡ true
  pub failures : new.device.failures ≡ old.device.failures
  pub power : new.device.gone ≡ false

-- While blocks are left that can be allocated, and there is no failure, at most one block is allocated, which may begin with a summary.
abbrev pub TakesOneBlock : (count spare : ℕ) → LogState → LogState → Type 0
TakesOneBlock count spare old new = HasMore old.table spare → new.device.failures ≡ old.device.failures
    → new.device.changes ≤ old.device.changes + count + summary_size old.device.geometry + 1

-- what a commit of so many pages may cost: the making of room and their programs, and for each failure a retirement and two of these again
abbrev pub commit_bill : (count : ℕ) → LogState → Bill
commit_bill count log = record { changes = count + log.device.geometry.pages + 1; each = 3 * log.device.geometry.pages + 3; marks = 0; unanswered = 0 }

-- What a commit of so many pages costs: their programs and the making of room, and for each failure a retirement and two of these again.
-- They are written without a read: pages are read to be copied, and after a failure. A block is allocated only where the open one lacks
-- the pages, or a program failed; and no more than one while blocks are left that can be allocated.
pub record PaysCommit {T E : Type 0} (count spare : ℕ) (old new : LogState) (result : Result T E) : Type 0 where
  pub costs : Costs (count + old.device.geometry.pages + 1) (3 * old.device.geometry.pages + 3) 0 old.device new.device
  pub marks : MarksFailures 0 0 old.device new.device old.table new.table
  pub answers : OnOk result (AnswersFailures 0 0 old.device new.device old.table new.table)
  pub reads : ReadsFor count old.device new.device result
  pub takes_none : TakesNoBlock count old new
  pub takes_one : TakesOneBlock count spare old new

-- What at most one commit of so many pages costs: the bill of that commit. A block is allocated only where the open one lacks the pages, or
-- a program failed; and no more than one while blocks are left that can be allocated.
pub record PaysUpTo {T E : Type 0} (count spare : ℕ) (old new : LogState) (result : Result T E) : Type 0 where
  pub pays : Pays (commit_bill count old) old new result
  pub takes_none : TakesNoBlock count old new
  pub takes_one : TakesOneBlock count spare old new

-- nothing is committed that was not: the call is done, and makes none of the device
pub record DoesNothing (old new : BufferedLog) (result : Result (Unit {0}) RoomFault) : Type 0 where
  pub done : IsOk result
  pub device : new.log.device ≡ old.log.device
  pub committed : (o c : ℕ) (p : CommittedPage) → committed_pages new.index o c ≡ Some p → committed_pages old.index o c ≡ Some p

-- so it is where nothing is buffered
abbrev pub CommitsNothing : BufferedLog → BufferedLog → Result (Unit {0}) RoomFault → Type 0
CommitsNothing old new result = old.pages ≡ [] → DoesNothing old new result
