-- The writing of a summary of the block that was open, with which the next begins.
-- From: the format: block summaries, `FORMATS.md`.
use Rattle.std.specs.Prelude.{◌≡◌, ◌<◌, ◌≤◌, ℕ, ◌+◌, ◌*◌, ◌/◌, true, false, List, None, Some, Result, Ok, Err, OnOk, AllPairs, Contains}
use Rattle.volume_terms.specs.Rounding.{ceiling}
use Rattle.volume_terms.specs.Sizes.{number_end}
use Rattle.nand_model.specs.Calls.{Device}
use Rattle.page_tags.specs.declared.check.CheckEntry.{CheckEntry}
use Rattle.page_tags.specs.declared.tag.Tag.{Tag}
use Rattle.flash_tree.specs.Groups.{HasTag}
use Rattle.flash_tree.specs.Newest.{Spot, IsNewest}
use Rattle.flash_tree.specs.Summaries.{Summary, HasSummaryForm, IsWholeSummary, AreSummariesRight}
use Rattle.flash_tree.specs.Summarizing.{IsFindable, ListsBlock, ListsKey}
use Rattle.block_state.specs.Committed.{bad_count, uncommitted_count}
use Rattle.block_state.specs.Table.{Table}
use Rattle.chunk_index.specs.declared.form.CommittedKey.{CommittedKey}
use Rattle.chunk_index.specs.declared.form.CommittedPage.{CommittedPage}
use Rattle.chunk_index.specs.Maps.{CommittedMap}
use Rattle.transactions.specs.Checking.{LogState}
use Rattle.transactions.specs.Groups.{next_group}
use Rattle.flash_log.specs.Bills.{Pays, bill_of}
use Rattle.flash_log.specs.CheckpointKeeping.{KeepsObjects}
use Rattle.flash_log.specs.Copying.{IsClear, KeepsCounts}
use Rattle.flash_log.specs.Moving.{WhyNotMoved}
use Rattle.flash_log.specs.RoomMaking.{FitsOpen, HasMore, LeavesNumber}
use Rattle.flash_log.specs.SummarySource.{summary_in, summary_size}
use Rattle.flash_log.specs.declared.fault.MoveFault.{MoveFault}
use Rattle.flash_log.specs.declared.fault.MoveFault.TheVariants as faults
use Rattle.flash_log.specs.declared.summary_source.SummarySource.{SummarySource}
use Rattle.flash_log.specs.declared.summary_writing.Summarized.{Summarized}
use Rattle.flash_log.specs.declared.summary_writing.Summarized.TheVariants as ends
use Rattle.flash_log.specs.declared.summary_writing.WrittenBlock.{WrittenBlock}

-- ---- the list

-- the entry of a page that is committed of a key
abbrev pub entry_at : (o c : ℕ) → CommittedPage → CheckEntry
entry_at o c p = record { object = o; chunk = c; version = p.version; block = p.block; page = p.page }

-- that of a key with its committed page
abbrev pub entry_of_key : CommittedKey → CheckEntry
entry_of_key k = entry_at k.key.object k.key.chunk k.at

-- the committed page of an entry
abbrev pub page_of : CheckEntry → CommittedPage
page_of e = record { block = e.block; page = e.page; version = e.version }

-- of two entries the first is of no later page, and of another key
pub record ComesBefore (e f : CheckEntry) : Type 0 where
  pub page : e.page ≤ f.page
  pub key : e.object ≡ f.object → e.chunk ≡ f.chunk → ⊥

-- The list has an entry of each page that is committed in block b, in the order of the pages, and no other.
pub record ListsEntries (b : ℕ) (m : CommittedMap) (entries : List CheckEntry) : Type 0 where
  pub only : (e : CheckEntry) → Contains entries e → (e.block ≡ b) × (m e.object e.chunk ≡ Some (page_of e))
  pub all : (o c : ℕ) (p : CommittedPage) → m o c ≡ Some p → p.block ≡ b → Contains entries (entry_at o c p)
  pub order : AllPairs ComesBefore entries

-- ---- the block

-- The block is the open one, with its number, and pages are committed in it.
pub record IsOpenWith (w : WrittenBlock) (t : Table) : Type 0 where
  pub open_block : t.open_block ≡ Some w.block
  pub seq : w.seq ≡ (t.entry w.block).seq
  pub committed : 1 ≤ (t.entry w.block).committed

-- The block is the open one, a fourth of it is written, and pages are committed in it.
pub record IsWorthIt (b : ℕ) (t : Table) : Type 0 where
  pub open_block : t.open_block ≡ Some b
  pub written : t.geometry.pages / 4 ≤ (t.entry b).next
  pub committed : 1 ≤ (t.entry b).committed

-- A summary of the block leaves room for so many pages behind it in another, and a number for their group.
abbrev pub HasRoomBehind : (b count : ℕ) → Table → Type 0
HasRoomBehind b count t = (ceiling (32 * (1 + (t.entry b).committed)) t.geometry.bytes + count ≤ t.geometry.pages) × (t.next_group + 1 < number_end)

-- The open block begins with a whole summary of block b, as that was allocated with this number.
pub record BeginsSummarized (b seq : ℕ) (log : LogState) : Type 0 where
  pub summary : Summary
  pub whole : IsWholeSummary log.device.geometry log.device.flash summary
  pub block : summary.head.block ≡ b
  pub number : summary.head.seq ≡ seq
  pub open_block : log.table.open_block ≡ Some summary.block

-- The block is on the device, and was allocated with this number, before the open one: on an honest device each tag there has it.
pub record WasWritten (w : WrittenBlock) (device : Device) (t : Table) : Type 0 where
  pub within : w.block < t.geometry.blocks
  pub older : (o : ℕ) → t.open_block ≡ Some o → w.seq < (t.entry o).seq
  pub own : device.honest ≡ true → (l : ℕ) (u : Tag) → HasTag device.flash w.block l u → u.seq ≡ w.seq

-- ---- the summary

-- the summary that the pages are, once they are written as a group in block w
abbrev pub summary_of : SummarySource → Table → (w : ℕ) → Summary
summary_of source t w = summary_in (next_group t source.pages w) source

-- It is of the form, and it lists a block as that is on the flash.
pub record IsListOf (s : Summary) (device : Device) : Type 0 where
  pub form : HasSummaryForm device.geometry s
  pub lists : ListsBlock device.flash s

-- If each summary was right, each key is findable still whose newest page lies in a block with committed pages, by the table, and which the
-- summary lists, if that page lies in the block that it is of.
abbrev pub KeepsListed : Summary → Table → Device → Device → Type 0
KeepsListed s t old new = AreSummariesRight old.geometry old.flash → (o c : ℕ) (p : Spot) → IsNewest old.flash o c p → 1 ≤ (t.entry p.block).committed
    → ListsKey old.flash s o c → IsFindable old.geometry old.flash o c → IsFindable new.geometry new.flash o c

-- What the writing of a summary leaves of a log, wherever it ends: counts, but for the mark of its block; and on an honest device the newest
-- pages of trees, which are findable still; and no other block is open.
pub record Summarizes (s : Summary) (old new : LogState) : Type 0 where
  pub keeps : KeepsCounts old.device new.device old.table new.table
  pub newest : old.device.honest ≡ true → KeepsObjects old.table old.device.flash new.device.flash
  pub found : old.device.honest ≡ true → KeepsListed s old.table old.device new.device
  pub open_block : (o : ℕ) → new.table.open_block ≡ Some o → old.table.open_block ≡ Some o

-- the same of the summary of this source in block w
abbrev pub SummarizesBy : SummarySource → ℕ → LogState → LogState → Type 0
SummarizesBy s w old new = Summarizes (summary_of s old.table w) old new

-- the device has the whole summary of the source in block w, as it is written where the table is this
abbrev pub HasSummary : SummarySource → ℕ → Table → Device → Type 0
HasSummary s w t device = IsWholeSummary device.geometry device.flash (summary_of s t w)

-- the device counts a change at most, and no failure and no read
pub record CostsAMark (old new : Device) : Type 0 where
  pub changes : new.changes ≤ old.changes + 1
  pub failures : new.failures ≡ old.failures
  pub reads : new.reads ≡ old.reads

-- One more block is bad, and none is open; or the device is gone.
abbrev pub MarkingEnds : Device → Table → Table → Result Summarized MoveFault → Type 0
MarkingEnds device old new (Ok ends.Written) = ⊥
MarkingEnds device old new (Ok ends.Marked) = (new.open_block ≡ None) × (bad_count new ≡ bad_count old + 1) × (new.next_group ≡ old.next_group) × (device.gone ≡ false)
MarkingEnds device old new (Err faults.Worn) = ⊥
MarkingEnds device old new (Err faults.Lost) = ⊥
MarkingEnds device old new (Err faults.Gone) = (device.gone ≡ true) × (bad_count new ≤ bad_count old + 1)

-- the open block has room for so many pages, and no page is committed in it
pub record HasClear (count : ℕ) (device : Device) (t : Table) : Type 0 where
  pub block : ℕ
  pub clear : IsClear block device t
  pub fits : (t.entry block).next + count ≤ t.geometry.pages

-- The open block has room for so many pages still; or it is marked and none is open; or why not.
abbrev pub SummaryEnds : (count spare : ℕ) → LogState → LogState → Result Summarized MoveFault → Type 0
SummaryEnds count spare old new (Ok ends.Written) = HasClear count new.device new.table × (bad_count new.table ≡ bad_count old.table) × LeavesNumber old.table new.table
SummaryEnds count spare old new (Ok ends.Marked) = (new.table.open_block ≡ None) × (bad_count old.table < bad_count new.table) × LeavesNumber old.table new.table × (new.device.gone ≡ false)
SummaryEnds count spare old new (Err fault) = WhyNotMoved spare new.device new.table fault

-- the same for any number of pages for which those of the summary leave room in a block
abbrev pub SummaryEndsWithin : (pages : ℕ) → LogState → LogState → Result Summarized MoveFault → Type 0
SummaryEndsWithin pages old new result = (count spare : ℕ) → pages + count ≤ old.table.geometry.pages → SummaryEnds count spare old new result

-- On an honest device a summary that has room is whole, unless a program failed.
abbrev pub IsWritten : (w : WrittenBlock) (count : ℕ) → LogState → LogState → Result Summarized MoveFault → Type 0
IsWritten w count old new result = old.device.honest ≡ true → HasRoomBehind w.block count old.table → result ≡ Ok ends.Written → BeginsSummarized w.block w.seq new

-- the programs of a summary that no failure pays for
abbrev pub most_programs : (size : ℕ) → Result Summarized MoveFault → ℕ
most_programs size (Ok ends.Written) = size
most_programs size (Ok ends.Marked) = 0
most_programs size (Err fault) = size

-- What a summary costs: its pages, which leave room for so many more in a block, and for a failure the pages of a block and a mark.
pub record PaysSummary (count : ℕ) (old new : LogState) (result : Result Summarized MoveFault) : Type 0 where
  pub size : ℕ
  pub most : size ≤ summary_size old.device.geometry
  pub fits : size + count ≤ old.device.geometry.pages
  pub pays : Pays (record { changes = most_programs size result; each = old.device.geometry.pages + 1; marks = 0; unanswered = 0 }) old new result

-- the same for any number of pages for which those of the summary leave room in a block
abbrev pub PaysWithin : (pages : ℕ) → LogState → LogState → Result Summarized MoveFault → Type 0
PaysWithin pages old new result = (count : ℕ) → pages + count ≤ old.table.geometry.pages → PaysSummary count old new result

-- ---- the next block

-- No count of committed pages is other, no block with some is marked, and as many good blocks are without one, or bad.
pub record KeepsHeld (old new : Table) : Type 0 where
  pub committed : (b : ℕ) → (new.entry b).committed ≡ (old.entry b).committed
  pub good : (b : ℕ) → 1 ≤ (old.entry b).committed → (old.entry b).bad ≡ false → (new.entry b).bad ≡ false
  pub uncommitted : uncommitted_count new + bad_count new ≡ uncommitted_count old + bad_count old

-- What the next block costs: an erase and a summary, which leaves room for so many pages; and its failures.
pub record PaysNext (count : ℕ) (old new : LogState) (result : Result (Unit {0}) MoveFault) : Type 0 where
  pub size : ℕ
  pub most : size ≤ summary_size old.device.geometry
  pub fits : size + count ≤ old.device.geometry.pages
  pub pays : Pays (bill_of old (size + 1) 0 0) old new result

-- The open block has room for so many pages, and no page is committed in it; or why there is none.
abbrev pub NextEnds : (count spare : ℕ) → LogState → LogState → Result (Unit {0}) MoveFault → Type 0
NextEnds count spare old new (Ok done) = HasClear count new.device new.table × LeavesNumber old.table new.table
NextEnds count spare old new (Err fault) = WhyNotMoved spare new.device new.table fault

-- On an honest device the next block begins with a summary of the one that was open, where that is worth it and leaves room, and nothing fails.
abbrev pub BeginsNext : {T E : Type 0} → (count : ℕ) → LogState → LogState → Result T E → Type 0
BeginsNext count old new result = (b : ℕ) → IsWorthIt b old.table → HasRoomBehind b count old.table → old.device.honest ≡ true
    → new.device.failures ≡ old.device.failures → OnOk result (BeginsSummarized b (old.table.entry b).seq new)

-- so it does where blocks can be allocated and the open one lacks room for so many pages
abbrev pub BeginsWhereNeeded : {T E : Type 0} → (count spare : ℕ) → LogState → LogState → Result T E → Type 0
BeginsWhereNeeded count spare old new result = HasMore old.table spare → (FitsOpen count old.table → ⊥) → BeginsNext count old new result
