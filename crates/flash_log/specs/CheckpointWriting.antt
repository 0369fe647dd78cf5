-- How the pages of a checkpoint are written.
-- From: this project.
use Rattle.std.specs.Prelude.{◌≡◌, ◌≢◌, ◌<◌, ◌≤◌, ◌+◌, ℕ, true, false, List, Some, None, Result, Ok, Err, All, AllPairs, Contains}
use Rattle.nand_model.specs.Calls.{Device}
use Rattle.page_tags.specs.Checks.{IsCheckEntry, IsEntryBefore}
use Rattle.page_tags.specs.declared.check.CheckEntry.{CheckEntry}
use Rattle.flash_tree.specs.Checkpoints.{Checkpoint, IsWhole, ListsTree}
use Rattle.flash_tree.specs.Numbering.{AreBelow}
use Rattle.flash_tree.specs.Slots.{check_object}
use Rattle.block_state.specs.Committed.{bad_count}
use Rattle.block_state.specs.Table.{Table}
use Rattle.chunk_index.specs.declared.index.Index.{Index}
use Rattle.chunk_index.specs.declared.form.CommittedKey.{CommittedKey}
use Rattle.chunk_index.specs.Committed.{IsListOf}
use Rattle.chunk_index.specs.Maps.{committed_pages}
use Rattle.transactions.specs.Checking.{LogState}
use Rattle.transactions.specs.Opening.{MayLose}
use Rattle.flash_log.specs.CheckpointKeeping.{KeepsPages, StaysChecked}
use Rattle.flash_log.specs.CheckpointListing.{check_entries}
use Rattle.flash_log.specs.CheckpointSource.{index_entries}
use Rattle.flash_log.specs.declared.seal_fault.SealFault.{SealFault}
use Rattle.flash_log.specs.declared.seal_fault.SealFault.TheVariants as faults
use Rattle.flash_log.specs.declared.checkpoint_writing.Written.{Written}
use Rattle.flash_log.specs.declared.checkpoint_writing.Written.TheVariants as writes

-- The open block may take the checkpoint of the committed keys: it has neither a committed nor a written page, and of an honest device no entry
-- is of the object of checkpoints, and the block's number and that of the next group are above all.
pub record MayTake (block : ℕ) (x : Index) (d : Device) (t : Table) : Type 0 where
  pub open_block : t.open_block ≡ Some block
  pub next : (t.entry block).next ≡ 0
  pub uncommitted : (t.entry block).committed ≡ 0
  pub entries : All IsCheckEntry (index_entries x)
  pub rise : AllPairs IsEntryBefore (index_entries x)
  pub apart : (e : CheckEntry) → Contains (index_entries x) e → e.block ≢ block
  pub ordinary : d.honest ≡ true → (e : CheckEntry) → Contains (index_entries x) e → e.object ≢ check_object
  pub fresh : d.honest ≡ true → AreBelow d.flash t.next_group (t.entry block).seq

-- the entries of the committed keys list the tree of an honest device
abbrev pub ListCommitted : Index → Device → Type 0
ListCommitted x d = d.honest ≡ true → ListsTree d.geometry d.flash (index_entries x)

-- The checkpoint of the committed keys is in the block that may have one, and of an honest device it is whole.
pub record HasCheckpoint (x : Index) (log : LogState) : Type 0 where
  pub checkpoint : Checkpoint
  pub keys : List CommittedKey
  pub lists : IsListOf (committed_pages x) keys
  pub entries : checkpoint.entries ≡ check_entries keys
  pub noted : log.table.checkpoint ≡ Some checkpoint.block
  pub whole : log.device.honest ≡ true → IsWhole log.device.geometry log.device.flash checkpoint

-- it reads no more pages than it counts failures: no page but one whose program is said to have failed
abbrev pub ReadsSuspects : Device → Device → Type 0
ReadsSuspects old new = new.reads + old.failures ≤ old.reads + new.failures

-- it counts no more changes than so many
abbrev pub ChangesAtMost : ℕ → Device → Device → Type 0
ChangesAtMost count old new = new.changes ≤ old.changes + count

-- What each step leaves once the block was taken: it is closed, and no other may have a checkpoint. If this is so, each whole checkpoint
-- stays right.
pub record Leaves (right : Type 0) (block : ℕ) (old new : LogState) : Type 0 where
  pub keeps : KeepsPages old new
  pub checked : right → StaysChecked old new
  pub reads : ReadsSuspects old.device new.device
  pub open_block : new.table.open_block ≡ None
  pub checkpoint : (c : ℕ) → new.table.checkpoint ≡ Some c → c ≡ block

-- the same, where what has to be right is that the committed keys of the index are those of the tree
abbrev pub LeavesListed : Index → (block : ℕ) → LogState → LogState → Type 0
LeavesListed x block old new = Leaves (ListCommitted x old.device) block old new

-- A good block without a committed page, where none is open and no other may have a checkpoint.
pub record MayMark (block : ℕ) (t : Table) : Type 0 where
  pub within : block < t.geometry.blocks
  pub good : (t.entry block).bad ≡ false
  pub uncommitted : (t.entry block).committed ≡ 0
  pub open_block : t.open_block ≡ None
  pub first : MayLose block t

-- Why no checkpoint was written: more blocks are bad than there are to spare; the device is not honest; it is gone.
abbrev pub WhyNotSealed : (spare : ℕ) → LogState → SealFault → Type 0
WhyNotSealed spare new faults.Worn = (spare < bad_count new.table) × (new.device.gone ≡ false)
WhyNotSealed spare new faults.Lost = new.device.honest ≡ false
WhyNotSealed spare new faults.Gone = new.device.gone ≡ true

-- how the mark of the block ends: one more is bad, and no block may have a checkpoint
abbrev pub MarkEnds : (spare : ℕ) → LogState → LogState → Result (Unit {0}) SealFault → Type 0
MarkEnds spare old new (Ok done) = (bad_count new.table ≡ bad_count old.table + 1) × (new.table.checkpoint ≡ None) × (new.device.gone ≡ false)
MarkEnds spare old new (Err fault) = WhyNotSealed spare new fault

-- how the writing ends: with the checkpoint, trusted or suspect; with none; or short
abbrev pub WriteEnds : Index → LogState → Result Written SealFault → Type 0
WriteEnds x new (Ok writes.Trusted) = HasCheckpoint x new × (new.device.gone ≡ false)
WriteEnds x new (Ok writes.Suspect) = new.device.gone ≡ false
WriteEnds x new (Ok writes.Failed) = new.device.gone ≡ false
WriteEnds x new (Err faults.Worn) = ⊥
WriteEnds x new (Err faults.Lost) = new.device.honest ≡ false
WriteEnds x new (Err faults.Gone) = new.device.gone ≡ true

-- a failed group and a suspect one are a failure that no mark has answered yet
abbrev pub unanswered : Result Written SealFault → ℕ
unanswered (Ok writes.Trusted) = 0
unanswered (Ok writes.Suspect) = 1
unanswered (Ok writes.Failed) = 1
unanswered (Err fault) = 0
