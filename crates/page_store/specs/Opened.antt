-- The tables of a device that was scanned.
-- From: this project.
use Rattle.std.specs.Prelude.{◌≡◌, ◌<◌, ◌≤◌, ◌^◌, ℕ, ◌+◌, true, false, List, Option, Some, None, slice_get}
use Rattle.volume_terms.specs.Sizes.{number_end}
use Rattle.nand_model.specs.Calls.{Device}
use Rattle.flash_tree.specs.Newest.{Spot, IsNewest, Numbers, AreGreatest}
use Rattle.mount_scan.specs.declared.page_copy.PageCopy.{PageCopy}
use Rattle.block_state.specs.Table.{Table, Sets}
use Rattle.chunk_index.specs.declared.form.CommittedPage.{CommittedPage}
use Rattle.chunk_index.specs.declared.index.Index.{Index}
use Rattle.chunk_index.specs.Entries.{as_committed}
use Rattle.chunk_index.specs.Maps.{committed_pages, present, CountsAgree}
use Rattle.page_store.specs.Buffering.{IsUnbuffered}
use Rattle.transactions.specs.Ready.{IsReady}
use Rattle.transactions.specs.Sources.{IsPageName}
use Rattle.transactions.specs.declared.source.PageName.{PageName}
use Rattle.flash_log.specs.Consistency.{AreCommitted, MayLie}
use Rattle.flash_log.specs.Taking.{LiesApart}
use Rattle.mount_scan.specs.declared.fault.ScanFault.{ScanFault}
use Rattle.mount_scan.specs.declared.fault.ScanFault.TheVariants as scans
use Rattle.page_store.specs.declared.opening.OpenFault.{OpenFault}
use Rattle.page_store.specs.declared.opening.OpenFault.TheVariants as faults

-- what the page of a copy is called
abbrev pub name_in : PageCopy → PageName
name_in f = record { key = record { object = f.object; chunk = f.chunk }; version = f.version }

-- each page may be named in a tag of the group of this number
abbrev pub HaveNames : ℕ → List PageCopy → Type 0
HaveNames number list = (i : ℕ) (f : PageCopy) → slice_get list i ≡ Some f → IsPageName number (name_in f)

-- there are numbers left above these
abbrev pub AreLeft : Numbers → Type 0
AreLeft n = (n.group < number_end) × (n.seq < number_end)

-- where the page lies, and its version
abbrev pub committed_at : Spot → CommittedPage
committed_at s = record { block = s.block; page = s.page; version = s.tag.version }

-- A table of the device in which nothing is committed, no block is open, none is noted for a checkpoint, and no good one is marked. Where
-- there are numbers left, it has the marks of the device, and the next numbers are one above these.
pub record IsTableOf (device : Device) (n : Numbers) (t : Table) : Type 0 where
  pub geometry : t.geometry ≡ device.geometry
  pub closed : t.open_block ≡ None
  pub checkpoint : t.checkpoint ≡ None
  pub none : (b : ℕ) → (t.entry b).committed ≡ 0
  pub good : (b : ℕ) → device.flash.bad b ≡ false → (t.entry b).bad ≡ false
  pub marks : AreLeft n → (b : ℕ) → (t.entry b).bad ≡ device.flash.bad b
  pub group : AreLeft n → t.next_group ≡ n.group + 1
  pub seq : AreLeft n → t.next_seq ≡ n.seq + 1

-- only the numbers of blocks are other, and how many of their pages were programmed
pub record OnlySeqs (old new : Table) : Type 0 where
  pub bad : (b : ℕ) → (new.entry b).bad ≡ (old.entry b).bad
  pub committed : (b : ℕ) → (new.entry b).committed ≡ (old.entry b).committed
  pub geometry : new.geometry ≡ old.geometry
  pub open_block : new.open_block ≡ old.open_block
  pub checkpoint : new.checkpoint ≡ old.checkpoint
  pub next_group : new.next_group ≡ old.next_group
  pub next_seq : new.next_seq ≡ old.next_seq

-- A block gets this seq, where that was handed out, as one in which something was programmed, and else nothing changes.
pub record NotesOne (b seq : ℕ) (old new : Table) : Type 0 where
  pub sets : seq < old.next_seq → Sets b (record (old.entry b) { seq = seq; next = old.geometry.pages }) old new
  pub open_block : new.open_block ≡ old.open_block
  pub checkpoint : new.checkpoint ≡ old.checkpoint
  pub next_seq : new.next_seq ≡ old.next_seq
  pub same : old.next_seq ≤ seq → new ≡ old

-- The tables of a device, by a checkpoint in this block or, with none, by a scan. What is committed is on the device, of a chunk that a tree
-- may look up, and is present, and no page of it lies in that block; no block is open, and no good one is marked; the counts of blocks are those of the index. On an honest
-- device each committed page is the newest of its key, and the numbers are the greatest. Where there are numbers left, groups can be
-- written: the next numbers are one above these, and each committed page may be copied.
pub record IsOpenedBy (checkpoint : Option ℕ) (device : Device) (t : Table) (x : Index) (n : Numbers) : Type 0 where
  pub counts : CountsAgree t x
  pub geometry : t.geometry ≡ device.geometry
  pub good : (b : ℕ) → device.flash.bad b ≡ false → (t.entry b).bad ≡ false
  pub closed : t.open_block ≡ None
  pub noted : t.checkpoint ≡ checkpoint
  pub apart : LiesApart t
  pub shown : (o c : ℕ) → present x o c ≡ as_committed (committed_pages x o c)
  pub unbuffered : IsUnbuffered x
  pub within : (o c : ℕ) (p : CommittedPage) → committed_pages x o c ≡ Some p → (p.block < device.geometry.blocks) × (p.page < device.geometry.pages)
  pub low : (o c : ℕ) (p : CommittedPage) → committed_pages x o c ≡ Some p → c < 2 ^ 32
  pub newest : device.honest ≡ true → AreCommitted device.flash (committed_pages x)
  pub numbers : device.honest ≡ true → AreGreatest device.flash n
  pub can_write : AreLeft n → IsReady device t
  pub group : AreLeft n → t.next_group ≡ n.group + 1
  pub seq : AreLeft n → t.next_seq ≡ n.seq + 1
  pub lie : AreLeft n → (o c : ℕ) (p : CommittedPage) → committed_pages x o c ≡ Some p → MayLie t o c p

-- The tables of a device by a scan: on an honest one the newest page of each key of a chunk that a tree may look up is committed, with its
-- place and version.
pub record IsOpened (device : Device) (t : Table) (x : Index) (n : Numbers) : Type 0 where
  pub tables : IsOpenedBy None device t x n
  pub all : device.honest ≡ true → (o c : ℕ) (s : Spot) → c < 2 ^ 32 → IsNewest device.flash o c s → committed_pages x o c ≡ Some (committed_at s)

-- what a scan's fault is here
abbrev pub of_scan : ScanFault → OpenFault
of_scan scans.NoMemory = faults.NoMemory
of_scan scans.Gone = faults.Gone

-- Why a device was not opened: memory was refused; it is not honest; it is gone.
abbrev pub WhyNotOpened : Device → OpenFault → Type 0
WhyNotOpened device faults.NoMemory = Unit {0}
WhyNotOpened device faults.Lost = device.honest ≡ false
WhyNotOpened device faults.Gone = device.gone ≡ true
