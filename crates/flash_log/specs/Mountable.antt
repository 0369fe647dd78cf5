-- What lets the next mount go by the summaries of a flash, of a log at one moment.
-- From: this project.
use Rattle.std.specs.Prelude.{◌≡◌, true, Option}
use Rattle.flash_tree.specs.MountableFlash.{BeganMountable}
use Rattle.flash_tree.specs.Summaries.{AreSummariesRight}
use Rattle.chunk_index.specs.declared.index.Index.{Index}
use Rattle.chunk_index.specs.Maps.{committed_pages}
use Rattle.transactions.specs.Checking.{LogState}
use Rattle.flash_log.specs.Erased.{TracksErased}
use Rattle.flash_log.specs.Snapshots.{Snapshot, remembered_flash}
use Rattle.flash_log.specs.Consistency.{AreFound}

-- Each summary is right; the table knows the blocks that begin erased; and a mount by summaries finds each committed page.
pub record IsMountable (log : LogState) (x : Index) : Type 0 where
  pub summaries : AreSummariesRight log.device.geometry log.device.flash
  pub erased : TracksErased log.device log.table
  pub found : AreFound log.device.geometry log.device.flash (committed_pages x)

-- of an honest device it is so, where it was so of the flash with which the log began
abbrev pub IsMountableSince : Option Snapshot → LogState → Index → Type 0
IsMountableSince first log x = BeganMountable log.device.geometry (remembered_flash first) → log.device.honest ≡ true → ∥ IsMountable log x ∥₁

-- of an honest device it is so still, wherever power is lost, if it was so before
abbrev pub KeepsMountable : LogState → LogState → Index → Index → Type 0
KeepsMountable old new x y = old.device.honest ≡ true → IsMountable old x → IsMountable new y
