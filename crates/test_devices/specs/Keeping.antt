-- The tables of a device of which some of the newest pages are committed.
use Rattle.std.specs.Prelude.{◌≡◌, ℕ, true, Some, None}
use Rattle.nand_model.specs.Calls.{Device}
use Rattle.flash_tree.specs.Newest.{Numbers}
use Rattle.block_state.specs.Table.{Table}
use Rattle.chunk_index.specs.declared.form.CommittedPage.{CommittedPage}
use Rattle.chunk_index.specs.declared.index.Index.{Index}
use Rattle.chunk_index.specs.Maps.{committed_pages, CountsAgree}
use Rattle.page_store.specs.Buffering.{IsUnbuffered}
use Rattle.transactions.specs.Ready.{IsReady}
use Rattle.flash_log.specs.Consistency.{AreCommitted, MayLie}
use Rattle.page_store.specs.Opened.{AreLeft}

-- What is committed is the newest page of its key, and no page is buffered; no block is open, and the counts of blocks are those of
-- the index. Where there are numbers left above these, groups can be written, and each committed page may be copied.
pub record KeepsNewest (device : Device) (t : Table) (x : Index) (n : Numbers) : Type 0 where
  pub counts : CountsAgree t x
  pub closed : t.open_block ≡ None
  pub checkpoint : t.checkpoint ≡ None
  pub unbuffered : IsUnbuffered x
  pub newest : device.honest ≡ true → AreCommitted device.flash (committed_pages x)
  pub can_write : AreLeft n → IsReady device t
  pub lie : AreLeft n → (o c : ℕ) (p : CommittedPage) → committed_pages x o c ≡ Some p → MayLie t o c p
