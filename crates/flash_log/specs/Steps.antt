-- What every call of the log keeps, wherever it ends.
-- From: this project.
use Rattle.std.specs.Prelude.{◌≡◌, ◌≤◌, ℕ, true, None, Some}
use Rattle.nand_model.specs.Calls.{Lasts}
use Rattle.block_state.specs.Committed.{bad_count, committed_count}
use Rattle.chunk_index.specs.declared.form.CommittedPage.{CommittedPage}
use Rattle.chunk_index.specs.declared.index.Index.{Index}
use Rattle.chunk_index.specs.Maps.{committed_pages, present, StaysPrepared, IsReadyKey}
use Rattle.transactions.specs.Checking.{LogState}
use Rattle.transactions.specs.Handing.{HandsOut}
use Rattle.transactions.specs.Ready.{IsReady}
use Rattle.flash_log.specs.Erased.{KeepsErased}
use Rattle.flash_log.specs.Moving.{Follows}
use Rattle.flash_log.specs.Consistency.{IsConsistentLog, SameData, KeepsFree, KeepsFindable}

-- there is room for each key still, also once the changes are settled
abbrev pub StaysReady : Index → Index → Type 0
StaysReady old new = (o c : ℕ) → IsReadyKey old o c → IsReadyKey new o c

-- Each committed page may lie elsewhere now, in its version, and what is current of its key follows. Of a key without a committed page
-- nothing changes.
pub record MovesCommitted (old new : Index) : Type 0 where
  pub moved : (o c : ℕ) (p : CommittedPage) → committed_pages old o c ≡ Some p → Follows o c p old new
  pub committed : (o c : ℕ) → committed_pages old o c ≡ None → committed_pages new o c ≡ None
  pub present : (o c : ℕ) → committed_pages old o c ≡ None → present new o c ≡ present old o c
  pub prepared : StaysPrepared old new
  pub can_write : StaysReady old new

-- A log that can be written: what every group needs holds, and what holds between two calls, and no more blocks are bad than there are
-- to spare.
pub record CanWrite (spare : ℕ) (log : LogState) (x : Index) : Type 0 where
  pub can_write : IsReady log.device log.table
  pub consistent : IsConsistentLog spare log.device log.table x
  pub within_limit : bad_count log.table ≤ spare

-- What every call of the log keeps while what is committed stays: what every group needs and what holds between two calls, the numbers,
-- the marks, how many pages are committed, each of them and its data, perhaps elsewhere, blocks that are free of them, what
-- a mount by summaries finds, and that the table knows the blocks that begin erased.
pub record Step (spare : ℕ) (old new : LogState) (x y : Index) : Type 0 where
  pub lasts : Lasts old.device new.device
  pub can_write : IsReady new.device new.table
  pub consistent : IsConsistentLog spare new.device new.table y
  pub numbers : HandsOut old.device new.device old.table new.table
  pub geometry : new.table.geometry ≡ old.table.geometry
  pub marks : (b : ℕ) → (old.table.entry b).bad ≡ true → (new.table.entry b).bad ≡ true
  pub committed_count : committed_count new.table ≡ committed_count old.table
  pub index : MovesCommitted x y
  pub same_data : old.device.honest ≡ true → SameData (committed_pages x) old.device.flash new.device.flash
  pub free : KeepsFree spare old.device new.device x y
  pub findable : KeepsFindable old.device new.device x y
  pub erased : KeepsErased old.device new.device old.table new.table
