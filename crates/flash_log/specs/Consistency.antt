-- What is between two calls of a store, over the map of the committed pages and the table of blocks.
-- From: this project.
use Rattle.std.specs.Prelude.{◌≡◌, ◌≢◌, ◌<◌, ◌≤◌, ℕ, ◌+◌, true, false, List, Some}
use Rattle.volume_terms.specs.Sizes.{number_end}
use Rattle.nand_model.specs.Flash.{Flash, Written}
use Rattle.nand_model.specs.Calls.{Device}
use Rattle.nand_model.specs.declared.geometry.Geometry.{Geometry}
use Rattle.page_tags.specs.Tags.{tag_bytes}
use Rattle.page_tags.specs.declared.tag.Tag.{Tag}
use Rattle.flash_tree.specs.FreeBlocks.{LeavesFree}
use Rattle.flash_tree.specs.Newest.{Spot, IsNewest}
use Rattle.flash_tree.specs.Summaries.{AreSummariesRight}
use Rattle.flash_tree.specs.Summarizing.{IsFindable}
use Rattle.block_state.specs.Committed.{bad_count, free_count, uncommitted_count}
use Rattle.block_state.specs.Table.{Table}
use Rattle.chunk_index.specs.declared.form.CommittedPage.{CommittedPage}
use Rattle.chunk_index.specs.declared.index.Index.{Index}
use Rattle.chunk_index.specs.Maps.{CommittedMap, committed_pages, CountsAgree}
use Rattle.transactions.specs.Sources.{IsPageName}
use Rattle.flash_tree.specs.Slots.{check_object}
use Rattle.flash_log.specs.Taking.{LiesApart}

-- the page there is the newest of the key, in that version
pub record IsCommittedAt (flash : Flash) (o c : ℕ) (p : CommittedPage) : Type 0 where
  pub tag : Tag
  pub newest : IsNewest flash o c (record { block = p.block; page = p.page; tag = tag })
  pub version : tag.version ≡ p.version

-- each committed page is the newest of its key, by its place and its version
abbrev pub AreCommitted : Flash → CommittedMap → Type 0
AreCommitted flash m = (o c : ℕ) (p : CommittedPage) → m o c ≡ Some p → IsCommittedAt flash o c p

-- the newest page of the key is of this version and has this data
pub record HasVersion (flash : Flash) (o c version : ℕ) (bytes : List ℕ) : Type 0 where
  pub spot : Spot
  pub newest : IsNewest flash o c spot
  pub version_is : spot.tag.version ≡ version
  pub stored : flash.page spot.block spot.page ≡ Written bytes (tag_bytes spot.tag)

-- the newest page of each committed key has the same version and data, wherever it lies
abbrev pub SameData : CommittedMap → Flash → Flash → Type 0
SameData m old new = (o c : ℕ) (p : CommittedPage) (bytes : List ℕ) → m o c ≡ Some p → HasVersion old o c p.version bytes → HasVersion new o c p.version bytes

-- the page is on the device, and its name may be in the next group
pub record MayLie (t : Table) (o c : ℕ) (p : CommittedPage) : Type 0 where
  pub block : p.block < t.geometry.blocks
  pub page : p.page < t.geometry.pages
  pub name : IsPageName t.next_group (record { key = record { object = o; chunk = c }; version = p.version })

-- What holds of the table and the index on every path and of every device: the counts of blocks are those of the index;
-- a block has no more committed pages than it has pages, and the open one no more than were written to it; and so many blocks
-- as may still be needed for retirements, and one for a collection, are bad already or without a committed page; and so is the block
-- that may have a checkpoint.
pub record TablesAgree (spare : ℕ) (t : Table) (x : Index) : Type 0 where
  pub counts : CountsAgree t x
  pub within : (o c : ℕ) (p : CommittedPage) → committed_pages x o c ≡ Some p → MayLie t o c p
  pub fits : (b : ℕ) → (t.entry b).committed ≤ t.geometry.pages
  pub written : (o : ℕ) → t.open_block ≡ Some o → (t.entry o).committed ≤ (t.entry o).next
  pub uncommitted : 1 + spare ≤ uncommitted_count t + bad_count t
  pub apart : LiesApart t

-- no committed page is of the object of checkpoints
abbrev pub KeepsOrdinary : Index → Type 0
KeepsOrdinary x = (o c : ℕ) (p : CommittedPage) → committed_pages x o c ≡ Some p → o ≢ check_object

-- no number past 2^62 is the next
abbrev pub IsWithinLimits : Table → Type 0
IsWithinLimits t = (t.next_group ≤ number_end) × (t.next_seq ≤ number_end)

-- What holds: the tables agree; each committed page of an honest device that has power is the newest of its key, and none is of
-- the object of checkpoints; and no number of 2^62 was handed out.
pub record IsConsistentLog (spare : ℕ) (device : Device) (t : Table) (x : Index) : Type 0 where
  pub tables : TablesAgree spare t x
  pub newest : device.honest ≡ true → device.gone ≡ false → AreCommitted device.flash (committed_pages x)
  pub ordinary : device.honest ≡ true → KeepsOrdinary x
  pub limits : IsWithinLimits t

-- each committed page lies in a block with committed pages
abbrev pub AreHeld : Table → Index → Type 0
AreHeld t x = (o c : ℕ) (p : CommittedPage) → committed_pages x o c ≡ Some p → 1 ≤ (t.entry p.block).committed

-- so many blocks as may still be needed for retirements, and one for a collection, are bad already or free
abbrev pub HasFreeBlocks : Table → (spare : ℕ) → Type 0
HasFreeBlocks t spare = 1 + spare ≤ free_count t + bad_count t

-- the key is committed
abbrev pub IsCommittedKey : CommittedMap → ℕ → ℕ → Type 0
IsCommittedKey m o c = (p : CommittedPage) × (m o c ≡ Some p)

-- On an honest device so many blocks as may still be needed for retirements, and one for a collection, are bad already or
-- hold no newest page of a committed key: wherever the power was lost, if it was so before.
abbrev pub KeepsFree : (spare : ℕ) → Device → Device → Index → Index → Type 0
KeepsFree spare old new x y = old.honest ≡ true
    → LeavesFree old.geometry old.flash spare (IsCommittedKey (committed_pages x)) → LeavesFree new.geometry new.flash spare (IsCommittedKey (committed_pages y))

-- each committed key has a newest page, which a mount by summaries finds
abbrev pub AreFound : Geometry → Flash → CommittedMap → Type 0
AreFound g flash m = (o c : ℕ) → IsCommittedKey m o c → IsFindable g flash o c

-- Where each summary of an honest device was right, and a mount by summaries would find each committed key, it finds each still, wherever the
-- power was lost.
abbrev pub KeepsFindable : Device → Device → Index → Index → Type 0
KeepsFindable old new x y = old.honest ≡ true → AreSummariesRight old.geometry old.flash
    → AreFound old.geometry old.flash (committed_pages x) → AreFound new.geometry new.flash (committed_pages y)
