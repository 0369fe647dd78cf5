-- What the writing of a checkpoint keeps, wherever it ends.
-- From: this project.
use Rattle.std.specs.Prelude.{◌≡◌, ◌≢◌, ◌≤◌, ℕ, ◌+◌, true}
use Rattle.nand_model.specs.Flash.{Flash}
use Rattle.nand_model.specs.Calls.{Device, Lasts}
use Rattle.nand_model.specs.declared.geometry.Geometry.{Geometry}
use Rattle.posix_profile.specs.State.{Objects}
use Rattle.flash_tree.specs.Checkpoints.{IsChecked}
use Rattle.flash_tree.specs.Keeping.{StaysNewest}
use Rattle.flash_tree.specs.Mount.{sizes_of, IsVolume}
use Rattle.flash_tree.specs.Newest.{Spot, IsNewest, HasNewest}
use Rattle.flash_tree.specs.Slots.{check_object}
use Rattle.flash_tree.specs.Truth.{KeepsSummaries}
use Rattle.flash_tree.specs.Tree.{Shows, InFootprint}
use Rattle.block_state.specs.Committed.{bad_count, uncommitted_count}
use Rattle.block_state.specs.Table.{Table}
use Rattle.chunk_index.specs.declared.index.Index.{Index}
use Rattle.chunk_index.specs.Maps.{CommittedMap, committed_pages}
use Rattle.transactions.specs.Checking.{LogState}
use Rattle.transactions.specs.Handing.{HandsNumbers}
use Rattle.transactions.specs.Ready.{IsReady}
use Rattle.flash_log.specs.Consistency.{IsCommittedKey, IsWithinLimits, KeepsFindable, KeepsFree, SameData, IsConsistentLog}
use Rattle.flash_log.specs.Erased.{KeepsErased}
use Rattle.flash_log.specs.Passing.{KeepsFound}

-- The flash shows these objects, and a key is committed exactly where it is looked up to see them.
pub record ShowsExactly (g : Geometry) (flash : Flash) (m : CommittedMap) (spare : ℕ) (objects : Objects) : Type 0 where
  pub volume : IsVolume g (HasNewest flash) spare
  pub shows : Shows (sizes_of g spare) (HasNewest flash) objects
  pub all : (o c : ℕ) → InFootprint (sizes_of g spare) (HasNewest flash) objects o c → IsCommittedKey m o c
  pub only : (o c : ℕ) → IsCommittedKey m o c → InFootprint (sizes_of g spare) (HasNewest flash) objects o c

-- an honest device shows some tree so
abbrev pub IsExact : Device → Index → Type 0
IsExact d x = d.honest ≡ true → (spare : ℕ) × (objects : Objects) × ShowsExactly d.geometry d.flash (committed_pages x) spare objects

-- each newest page of an object of the tree that lies in a block with committed pages, by the table, stays so
abbrev pub KeepsObjects : Table → Flash → Flash → Type 0
KeepsObjects t old new = (o c : ℕ) (s : Spot) → o ≢ check_object → IsNewest old o c s → 1 ≤ (t.entry s.block).committed → StaysNewest old new o c s

-- No committed count changes, as many good blocks are without a committed page or bad, no number of 2^62 is handed out, and the newest pages of
-- objects stay where blocks have committed pages, and findable by summaries. Each summary stays right, and the
-- table knows the blocks that begin erased still.
pub record KeepsPages (old new : LogState) : Type 0 where
  pub lasts : Lasts old.device new.device
  pub can_write : IsReady new.device new.table
  pub numbers : HandsNumbers old.device new.device old.table new.table
  pub geometry : new.table.geometry ≡ old.table.geometry
  pub committed : (b : ℕ) → (new.table.entry b).committed ≡ (old.table.entry b).committed
  pub uncommitted : uncommitted_count new.table + bad_count new.table ≡ uncommitted_count old.table + bad_count old.table
  pub limits : IsWithinLimits old.table → IsWithinLimits new.table
  pub newest : old.device.honest ≡ true → KeepsObjects old.table old.device.flash new.device.flash
  pub summaries : old.device.honest ≡ true → KeepsSummaries old.device new.device
  pub found : old.device.honest ≡ true → KeepsFound old.table old.device new.device
  pub erased : KeepsErased old.device new.device old.table new.table

-- if each whole checkpoint of an honest device was right, and in the block that may have one, each is so still
abbrev pub StaysChecked : LogState → LogState → Type 0
StaysChecked old new = old.device.honest ≡ true
    → IsChecked old.device.geometry old.device.flash old.table.checkpoint → IsChecked new.device.geometry new.device.flash new.table.checkpoint

-- What holds of a log stands still, with the tree that was shown, the data of each committed page, as many free blocks, and what a mount
-- by summaries finds. Where the committed keys are those of the tree, no whole checkpoint is wrong that was not before.
pub record Seals (spare : ℕ) (x : Index) (old new : LogState) : Type 0 where
  pub keeps : KeepsPages old new
  pub consistent : IsConsistentLog spare new.device new.table x
  pub checked : IsExact old.device x → StaysChecked old new
  pub shows : old.device.honest ≡ true → (s : ℕ) (objects : Objects)
      → ShowsExactly old.device.geometry old.device.flash (committed_pages x) s objects → ShowsExactly new.device.geometry new.device.flash (committed_pages x) s objects
  pub same_data : old.device.honest ≡ true → SameData (committed_pages x) old.device.flash new.device.flash
  pub free : KeepsFree spare old.device new.device x x
  pub findable : KeepsFindable old.device new.device x x
