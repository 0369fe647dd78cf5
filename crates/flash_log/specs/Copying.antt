-- The copying of listed pages into a block that is taken.
-- From: this project.
use Rattle.std.specs.Prelude.{◌≡◌, ◌≢◌, ◌⊎◌, ◌<◌, ◌≤◌, ℕ, ◌+◌, Bool, true, false, List, length, Some, None, Result, Ok, Err, slice_get, if◌then◌else◌}
use Rattle.nand_model.specs.Flash.{Flash}
use Rattle.nand_model.specs.Calls.{Device, Lasts}
use Rattle.block_state.specs.Committed.{bad_count, uncommitted_count}
use Rattle.block_state.specs.Table.{Table}
use Rattle.chunk_index.specs.declared.form.CommittedPage.{CommittedPage}
use Rattle.chunk_index.specs.declared.form.PagePlace.{PagePlace}
use Rattle.transactions.specs.Checking.{LogState}
use Rattle.flash_log.specs.CopySource.{CanCopy, copy_name}
use Rattle.transactions.specs.Naming.{AreOrdinary}
use Rattle.transactions.specs.Handing.{HandsOut}
use Rattle.flash_tree.specs.Newest.{Spot, Holds, IsNewest}
use Rattle.flash_tree.specs.Slots.{check_object}
use Rattle.transactions.specs.Ready.{IsReady}
use Rattle.chunk_index.specs.declared.form.CommittedKey.{CommittedKey}
use Rattle.flash_log.specs.Erased.{KeepsErased}
use Rattle.flash_log.specs.Moving.{WhyNotMoved}
use Rattle.flash_log.specs.Passing.{KeepsFound}
use Rattle.flash_log.specs.Consistency.{IsCommittedAt, HasVersion, IsWithinLimits}
use Rattle.flash_log.specs.declared.copying.Copied.{Copied}
use Rattle.flash_log.specs.declared.copying.Copied.TheVariants as ends
use Rattle.flash_log.specs.declared.copying.Target.{Target}
use Rattle.flash_log.specs.declared.fault.MoveFault.{MoveFault}

-- What a step keeps that leaves the index: no block's committed count changes, no block with a committed page is marked, and no number
-- of 2^62 is handed out. The table knows the blocks that begin erased still.
pub record KeepsCounts (old new : Device) (t t' : Table) : Type 0 where
  pub lasts : Lasts old new
  pub can_write : IsReady new t'
  pub numbers : HandsOut old new t t'
  pub geometry : t'.geometry ≡ t.geometry
  pub committed : (b : ℕ) → (t'.entry b).committed ≡ (t.entry b).committed
  pub marks : (b : ℕ) → (t.entry b).bad ≡ true → (t'.entry b).bad ≡ true
  pub marked : (b : ℕ) → (t'.entry b).bad ≡ true → ((t.entry b).bad ≡ true) ⊎ ((t.entry b).committed ≡ 0)
  pub uncommitted : uncommitted_count t' + bad_count t' ≡ uncommitted_count t + bad_count t
  pub rises : bad_count t ≤ bad_count t'
  pub limits : IsWithinLimits t → IsWithinLimits t'
  pub erased : KeepsErased old new t t'

-- the copy is of the key of object o and chunk c
abbrev pub IsCopyOf : CommittedKey → ℕ → ℕ → Type 0
IsCopyOf x o c = (x.key.object ≡ o) × (x.key.chunk ≡ c)

-- a newest page in a block with committed pages stays so, in its version
abbrev pub KeepsCommittedAt : Table → Flash → Flash → Type 0
KeepsCommittedAt t old new = (o c : ℕ) (p : CommittedPage) → 1 ≤ (t.entry p.block).committed → IsCommittedAt old o c p → IsCommittedAt new o c p

-- and whatever is newest afterwards has its data
abbrev pub KeepsDataAt : Table → Flash → Flash → Type 0
KeepsDataAt t old new = (o c : ℕ) (p : CommittedPage) (bytes : List ℕ) → 1 ≤ (t.entry p.block).committed → IsCommittedAt old o c p
    → HasVersion old o c p.version bytes → HasVersion new o c p.version bytes

-- each page that is copied is the newest of its key
abbrev pub AreCommittedAt : Flash → List CommittedKey → Type 0
AreCommittedAt flash copies = (i : ℕ) (x : CommittedKey) → slice_get copies i ≡ Some x → IsCommittedAt flash x.key.object x.key.chunk x.at

-- Pages of a block that may be copied: no more than a block has pages, each in a block with committed pages, none of one key
-- with another, and of an honest device none of the object of checkpoints and, where it has power, each the newest of its key.
pub record MayBeCopied (device : Device) (t : Table) (copies : List CommittedKey) : Type 0 where
  pub can : CanCopy copies device.geometry t.next_group
  pub within_limit : length copies ≤ device.geometry.pages
  pub held : (i : ℕ) (x : CommittedKey) → slice_get copies i ≡ Some x → 1 ≤ (t.entry x.at.block).committed
  pub once : (i j : ℕ) (x y : CommittedKey) → slice_get copies i ≡ Some x → slice_get copies j ≡ Some y → x.key ≡ y.key → i ≡ j
  pub newest : device.honest ≡ true → device.gone ≡ false → AreCommittedAt device.flash copies
  pub ordinary : device.honest ≡ true → AreOrdinary (length copies) (copy_name copies)

-- copy i lies i pages behind a place, in its version
abbrev pub copy_in : PagePlace → ℕ → CommittedKey → CommittedPage
copy_in at i x = record { block = at.block; page = at.page + i; version = x.at.version }

-- The copies are the newest pages of their keys, and of all other keys newest pages in blocks with committed pages stay so.
pub record AreCopied (at : PagePlace) (copies : List CommittedKey) (t : Table) (old new : Flash) : Type 0 where
  pub copied : (i : ℕ) (x : CommittedKey) → slice_get copies i ≡ Some x → IsCommittedAt new x.key.object x.key.chunk (copy_in at i x)
  pub others : (o c : ℕ) (p : CommittedPage) → 1 ≤ (t.entry p.block).committed → ((i : ℕ) (x : CommittedKey) → slice_get copies i ≡ Some x → IsCopyOf x o c → ⊥)
      → IsCommittedAt old o c p → IsCommittedAt new o c p

-- and they are in a group whose number was not handed out before
pub record AreWritten (at : PagePlace) (copies : List CommittedKey) (t : Table) (old new : Flash) : Type 0 where
  pub made : AreCopied at copies t old new
  pub numbered : (i : ℕ) (x : CommittedKey) (s : Spot) → slice_get copies i ≡ Some x → IsNewest new x.key.object x.key.chunk s → t.next_group ≤ s.tag.group

-- where the first copy lies
abbrev pub place_of : Target → PagePlace
place_of target = record { block = target.block; page = target.first }

-- what is newest on an honest device that has power, after the copies were made or not
abbrev pub NewestAfterCopies : List CommittedKey → Table → Flash → Flash → Result Copied MoveFault → Type 0
NewestAfterCopies copies t old new (Ok (ends.Into target)) = AreWritten (place_of target) copies t old new
NewestAfterCopies copies t old new (Ok ends.Marked) = KeepsCommittedAt t old new
NewestAfterCopies copies t old new (Err fault) = KeepsCommittedAt t old new

-- The copies lie in a block that is good and without a committed page.
pub record LieApart (copies : List CommittedKey) (t : Table) (old : Flash) (new : Device) : Type 0 where
  pub at : PagePlace
  pub within : at.block < t.geometry.blocks
  pub uncommitted : (t.entry at.block).committed ≡ 0
  pub good : new.flash.bad at.block ≡ false
  pub copied : AreCopied at copies t old new.flash

-- What is newest wherever the copying ends, also where the power was lost in it: in blocks with committed pages all stays, or the
-- copies are the newest of their keys. No third way.
abbrev pub StayOrLieApart : List CommittedKey → Table → Flash → Device → Type 0
StayOrLieApart copies t old new = KeepsCommittedAt t old new.flash ⊎ LieApart copies t old new

-- What becomes of the log and of committed pages while listed ones are copied, wherever that ends: no count of a block changes but by
-- marks; and on an honest device what is newest keeps its data, and stays where it is, or the copies are the newest of their keys; and
-- what is findable by summaries is so still.
pub record CopiesPages (copies : List CommittedKey) (old new : LogState) (result : Result Copied MoveFault) : Type 0 where
  pub keeps : KeepsCounts old.device new.device old.table new.table
  pub stored : old.device.honest ≡ true → KeepsDataAt old.table old.device.flash new.device.flash
  pub newest : old.device.honest ≡ true → new.device.gone ≡ false → NewestAfterCopies copies old.table old.device.flash new.device.flash result
  pub apart : old.device.honest ≡ true → StayOrLieApart copies old.table old.device.flash new.device
  pub found : old.device.honest ≡ true → KeepsFound old.table old.device new.device

-- the block is the open one, with so many pages written, and where its last page is suspect none is open
abbrev pub OpenAfter : ℕ → ℕ → Bool → Table → Type 0
OpenAfter w count true t = t.open_block ≡ None
OpenAfter w count false t = (t.open_block ≡ Some w) × ((t.entry w).next ≡ count)

-- the block of the copies was good and without a committed page, and no block may have a checkpoint any more
pub record IsTarget (count : ℕ) (target : Target) (old new : Table) : Type 0 where
  pub within : target.block < old.geometry.blocks
  pub good : (new.entry target.block).bad ≡ false
  pub uncommitted : (old.entry target.block).committed ≡ 0
  pub fits : target.first + count ≤ old.geometry.pages
  pub begun : target.first ≤ (new.entry target.block).next
  pub open_block : OpenAfter target.block (target.first + count) target.suspect new
  pub checkpoint : new.checkpoint ≡ None

-- how the copying ends: the copies are made; or their block was marked; or not
abbrev pub CopiesEnd : (count spare : ℕ) → Device → Table → Table → Result Copied MoveFault → Type 0
CopiesEnd count spare device old new (Ok (ends.Into target)) = IsTarget count target old new × (device.gone ≡ false)
CopiesEnd count spare device old new (Ok ends.Marked) = (new.open_block ≡ None) × (bad_count old < bad_count new) × (device.gone ≡ false)
CopiesEnd count spare device old new (Err fault) = (new.open_block ≡ None) × WhyNotMoved spare device new fault

-- the first copy lies in this page
abbrev pub StartsAt : (first : ℕ) → Result Copied MoveFault → Type 0
StartsAt first (Ok (ends.Into target)) = target.first ≡ first
StartsAt first (Ok ends.Marked) = Unit {0}
StartsAt first (Err fault) = Unit {0}

-- where copies are made, no more blocks are bad than there are to spare
abbrev pub FewBad : (spare : ℕ) → Table → Result Copied MoveFault → Type 0
FewBad spare new (Ok (ends.Into target)) = bad_count new ≤ spare
FewBad spare new (Ok ends.Marked) = Unit {0}
FewBad spare new (Err fault) = Unit {0}

-- a suspect copy is a failure that no mark has answered yet
abbrev pub left_open : Result Copied MoveFault → ℕ
left_open (Ok (ends.Into target)) = if target.suspect then 1 else 0
left_open (Ok ends.Marked) = 0
left_open (Err fault) = 0

-- Copies that were made are an erase and their programs; and each failure an erase, programs and a mark.
abbrev pub most_changes : ℕ → Result Copied MoveFault → ℕ
most_changes count (Ok (ends.Into target)) = count + 1
most_changes count (Ok ends.Marked) = 0
most_changes count (Err fault) = count + 1

-- Copies that were made are their programs; and each failure programs and a mark.
abbrev pub most_written : ℕ → Result Copied MoveFault → ℕ
most_written count (Ok (ends.Into target)) = count
most_written count (Ok ends.Marked) = 0
most_written count (Err fault) = count

-- The block is the open one of a device that has power, and no page is committed in it. Its number is above those of all valid pages of
-- objects of a tree.
pub record IsClear (w : ℕ) (device : Device) (t : Table) : Type 0 where
  pub within : w < t.geometry.blocks
  pub open_block : t.open_block ≡ Some w
  pub good : (t.entry w).bad ≡ false
  pub uncommitted : (t.entry w).committed ≡ 0
  pub older : device.honest ≡ true → (o c : ℕ) (s : Spot) → o ≢ check_object → Holds device.flash o c s → s.tag.seq < (t.entry w).seq
  pub power : device.gone ≡ false

-- nothing is written to it besides
pub record IsFresh (w : ℕ) (device : Device) (t : Table) : Type 0 where
  pub within : w < t.geometry.blocks
  pub open_block : t.open_block ≡ Some w
  pub good : (t.entry w).bad ≡ false
  pub uncommitted : (t.entry w).committed ≡ 0
  pub next : (t.entry w).next ≡ 0
  pub older : device.honest ≡ true → (o c : ℕ) (s : Spot) → o ≢ check_object → Holds device.flash o c s → s.tag.seq < (t.entry w).seq
  pub power : device.gone ≡ false

-- the same, where copies were made until they stood
abbrev pub as_copied : Result Target MoveFault → Result Copied MoveFault
as_copied (Ok target) = Ok (ends.Into target)
as_copied (Err fault) = Err fault
