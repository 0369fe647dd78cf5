-- What is committed while the buffered pages are written.
use Rattle.std.specs.Prelude.{◌≡◌, ◌⊎◌, ℕ, true, false, [], Some}
use Rattle.nand_model.specs.Calls.{Lasts}
use Rattle.chunk_index.specs.declared.index.Index.{Index}
use Rattle.chunk_index.specs.Entries.{as_committed}
use Rattle.chunk_index.specs.Maps.{committed_pages, present}
use Rattle.page_store.specs.declared.buffer.Buffer.{Buffer}
use Rattle.page_store.specs.BufferOf.{most_pages, bytes_of_page}
use Rattle.page_store.specs.Buffering.{Buffers}
use Rattle.transactions.specs.Checking.{LogState}
use Rattle.transactions.specs.Handing.{HandsOut}
use Rattle.transactions.specs.Ready.{IsReady}
use Rattle.flash_log.specs.Mountable.{KeepsMountable}
use Rattle.flash_log.specs.Consistency.{IsConsistentLog}
use Rattle.flash_log.specs.Steps.{MovesCommitted, StaysReady, Step}
use Rattle.page_store.specs.Buffered.{BufferedLog, committed_map, current}
use Rattle.page_store.specs.Carrying.{ShowsCurrent, StaysOrShows}

-- What a commit keeps of the log, wherever it ends.
pub record KeepsLog (spare : ℕ) (old new : BufferedLog) : Type 0 where
  pub lasts : Lasts old.log.device new.log.device
  pub can_write : IsReady new.log.device new.log.table
  pub consistent : IsConsistentLog spare new.log.device new.log.table new.index
  pub numbers : HandsOut old.log.device new.log.device old.log.table new.log.table
  pub mountable : KeepsMountable old.log new.log old.index new.index

-- what is current of each key is what is committed
abbrev pub IsSettled : Index → Type 0
IsSettled x = (o c : ℕ) → present x o c ≡ as_committed (committed_pages x o c)

-- The buffered pages are valid: what is current is what is committed, and of an honest device each key has the data that was
-- current, and its device blocks enough that hold none of it, and a mount by summaries finds it, if it would have found what was committed.
pub record Commits (spare : ℕ) (old new : BufferedLog) : Type 0 where
  pub log : KeepsLog spare old new
  pub settled : IsSettled new.index
  pub keys : StaysReady old.index new.index
  pub committed : old.log.device.honest ≡ true → new.log.device.gone ≡ false → (o c : ℕ) → committed_map new o c ≡ current old o c
  pub newest : old.log.device.honest ≡ true → ShowsCurrent spare old new.log.device

-- Since there was room for the group, before any of its pages was valid, the device had no failure, or the block that
-- was open for it is bad: no block is trusted in which a program of the group failed.
pub record IsAnswered (spare : ℕ) (old new : BufferedLog) : Type 0 where
  pub log : LogState
  pub index : Index
  pub before : Step spare old.log log old.index index
  pub answered : (new.log.device.failures ≡ log.device.failures) ⊎ ((o : ℕ) × (log.table.open_block ≡ Some o) × ((new.log.table.entry o).bad ≡ true))

-- the buffer has all its pages still, and committed pages were moved at most; or it is empty, and what is current is committed
abbrev pub WaitsOrSettles : BufferedLog → BufferedLog → Type 0
WaitsOrSettles old new = ((new.pages ≡ old.pages) × MovesCommitted old.index new.index) ⊎ ((new.pages ≡ []) × IsSettled new.index)

-- What holds wherever a call ends.
pub record Leaves (spare : ℕ) (old new : BufferedLog) : Type 0 where
  pub log : KeepsLog spare old new
  pub buffers : Buffers new.index new.pages
  pub waits : WaitsOrSettles old new
  pub keys : StaysReady old.index new.index
  pub newest : old.log.device.honest ≡ true → StaysOrShows spare old new.log.device

-- the buffer holds as many pages of as many bytes at most
pub record SameSizes (old new : Buffer) : Type 0 where
  pub most : most_pages new ≡ most_pages old
  pub bytes : bytes_of_page new ≡ bytes_of_page old

-- What a commit leaves of the buffer and of the keys, wherever it ends: what is buffered is in the index, the buffer has all its pages still
-- or none, and each key has the room that it had.
pub record KeepsBuffer (old new : BufferedLog) : Type 0 where
  pub buffers : Buffers new.index new.pages
  pub waits : WaitsOrSettles old new
  pub keys : StaysReady old.index new.index
