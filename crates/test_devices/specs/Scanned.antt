-- What a scan leaves.
use Rattle.std.specs.Prelude.{◌≡◌, ℕ, Some, None}
use Rattle.nand_model.specs.Calls.{Device}
use Rattle.block_state.specs.Table.{Table}
use Rattle.chunk_index.specs.Maps.{committed_pages, CountsAgree}
use Rattle.chunk_index.specs.declared.form.CommittedPage.{CommittedPage}
use Rattle.chunk_index.specs.declared.index.Index.{Index}
use Rattle.transactions.specs.Ready.{IsReady}
use Rattle.flash_log.specs.Consistency.{AreCommitted, MayLie, IsWithinLimits}

-- The table and the index of a device on which newest pages were found: groups can be written, the counts of blocks are those
-- of the index, no block is open, and each committed page is the newest of its key and may be copied.
pub record IsScanned (device : Device) (t : Table) (x : Index) : Type 0 where
  pub can_write : IsReady device t
  pub counts : CountsAgree t x
  pub closed : t.open_block ≡ None
  pub newest : AreCommitted device.flash (committed_pages x)
  pub lie : (o c : ℕ) (p : CommittedPage) → committed_pages x o c ≡ Some p → MayLie t o c p
  pub limits : IsWithinLimits t
