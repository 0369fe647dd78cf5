-- What the writing of a checkpoint promises.
use Rattle.std.specs.Prelude.{◌≡◌, ◌≢◌, ◌↔◌, ◌<◌, ◌≤◌, ℕ, ◌+◌, ◌*◌, true, List, length, Option, Some, None, Result, Ok, Err, IfOk, IsErrOf, All, AllPairs, Contains}
use Rattle.volume_terms.specs.Rounding.{ceiling}
use Rattle.nand_model.specs.Flash.{Flash}
use Rattle.nand_model.specs.Calls.{Device}
use Rattle.nand_model.specs.Counts.{ReadsFew}
use Rattle.nand_model.specs.declared.geometry.Geometry.{Geometry}
use Rattle.page_tags.specs.Checks.{IsCheckEntry, IsEntryBefore, check_page}
use Rattle.page_tags.specs.declared.check.CheckEntry.{CheckEntry}
use Rattle.flash_tree.specs.Checkpoints.{IsChecked, ListsTree}
use Rattle.flash_tree.specs.Numbering.{AreBelow}
use Rattle.flash_tree.specs.Slots.{check_object}
use Rattle.block_state.specs.Table.{Table, room}
use Rattle.transactions.specs.declared.source.PageSource.{Ghosts}
use Rattle.transactions.specs.declared.group.Placed.{Placed}
use Rattle.transactions.specs.declared.group.GroupFault.{GroupFault}
use Rattle.transactions.specs.declared.group.GroupFault.TheVariants as faults
use Rattle.transactions.specs.Groups.{next_group, ReportsGroup, GroupsAfter, GroupEnds, TableEnds, Stays, WritesOpen}
use Rattle.transactions.specs.Handing.{HandsNumbers}
use Rattle.transactions.specs.Naming.{KeepsRight}
use Rattle.transactions.specs.Written.{unwritten}

-- A device, and what is known of its blocks.
pub record LogState : Type 0 where
  pub device : Device
  pub table : Table

abbrev pub log_of : Device → Table → LogState
log_of d t = record { device = d; table = t }

-- The source has the pages of a checkpoint of these entries, for the open block, of which no page is written: no entry is of a page in
-- this block or of the object of checkpoints, and the next group and the block have numbers above all that stand.
pub record WritesCheckpoint {T : Type 0} (pages : Ghosts T) (source : T) (d : Device) (t : Table) : Type 0 where
  pub block : ℕ
  pub open_block : t.open_block ≡ Some block
  pub first : (t.entry block).next ≡ 0
  pub entries : List CheckEntry
  pub size : pages.count source ≡ ceiling (32 * (1 + length entries)) d.geometry.bytes
  pub names : (i : ℕ) → i < pages.count source → pages.name source t.next_group i ≡ record { key = record { object = check_object; chunk = 1 + i }; version = t.next_group }
  pub bytes : (i : ℕ) → i < pages.count source → pages.bytes source d.flash i ≡ check_page d.geometry.bytes entries i
  pub each : All IsCheckEntry entries
  pub rise : AllPairs IsEntryBefore entries
  pub apart : (e : CheckEntry) → Contains entries e → e.block ≢ block
  pub ordinary : (e : CheckEntry) → Contains entries e → e.object ≢ check_object
  pub fresh : AreBelow d.flash t.next_group (t.entry block).seq

-- the device is honest, and the source has the pages of a checkpoint that lists its tree
pub record ChecksTree {T : Type 0} (pages : Ghosts T) (source : T) (d : Device) (t : Table) : Type 0 where
  pub honest : d.honest ≡ true
  pub writes : WritesCheckpoint pages source d t
  pub tree : ListsTree d.geometry d.flash writes.entries

-- What the writing of a group does, whichever its pages: where there is no room; what the device and the table are in the end; where
-- the group was written. Wherever it ends, the group counts whole or not at all, and no other group changes. For pages in memory
-- none is read, but a last one that is said to fail. Where the group does not begin as a summary, each summary stays right.
pub record WritesGroup {T : Type 0} (pages : Ghosts T) (source : T) (old new : LogState) (result : Result Placed GroupFault) : Type 0 where
  pub no_room : IsErrOf result faults.NoRoom ↔ (room old.table < pages.count source)
  pub ends : GroupEnds old.device new.device (pages.count source) result
  pub table : TableEnds (pages.count source) old.table new.table result
  pub placed : (o : ℕ) → old.table.open_block ≡ Some o → IfOk result (λ placed. ReportsGroup (next_group old.table (pages.count source) o) placed)
  pub groups : old.device.honest ≡ true → (o : ℕ) → old.table.open_block ≡ Some o
      → GroupsAfter (next_group old.table (pages.count source) o) (pages.name source old.table.next_group) (pages.bytes source old.device.flash) old.device.flash new.device.flash result
  pub writes : old.device.honest ≡ true → WritesOpen old.table old.device.flash new.device.flash
  pub stays : Stays old.table old.device new.device
  pub quiet : pages.quiet source → new.device.reads + old.device.failures ≤ old.device.reads + new.device.failures
  pub reads : ReadsFew (unwritten result) old.device new.device
  pub numbers : HandsNumbers old.device new.device old.table new.table
  pub summaries : KeepsRight (pages.count source) (pages.name source old.table.next_group) old.device new.device

-- Which block may have a whole checkpoint once one was written in block b, each being right: b after Ok, and after a cut, where it may
-- not be whole; none after NoRoom, a failure or a loss.
abbrev pub CheckedAfter : Geometry → Flash → ℕ → Result Placed GroupFault → Type 0
CheckedAfter g flash b (Ok placed) = IsChecked g flash (Some b)
CheckedAfter g flash b (Err faults.NoRoom) = IsChecked g flash None
CheckedAfter g flash b (Err faults.Failed) = IsChecked g flash None
CheckedAfter g flash b (Err faults.Lost) = IsChecked g flash None
CheckedAfter g flash b (Err faults.Gone) = IsChecked g flash (Some b)

-- where none was whole, each is right, and in the block that was open
abbrev pub LeavesChecked : Device → Device → Option ℕ → Result Placed GroupFault → Type 0
LeavesChecked old new opened result = IsChecked old.geometry old.flash None → (b : ℕ) → opened ≡ Some b → CheckedAfter new.geometry new.flash b result
