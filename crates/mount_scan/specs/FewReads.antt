-- How many pages a scan by summaries reads.
use Rattle.std.specs.Prelude.{◌≡◌, ◌≢◌, ◌⊎◌, ◌<◌, ◌≤◌, ℕ, ◌+◌, ◌*◌, Bool, true, false, List, Some, Result, map, sum, slice_get, if◌then◌else◌}
use Rattle.std.specs.List.{range_with_len}
use Rattle.std.specs.Option.{option_map_or}
use Rattle.nand_model.specs.Flash.{Flash, Erased}
use Rattle.nand_model.specs.Calls.{Device}
use Rattle.nand_model.specs.Changes.{OnlyReads}
use Rattle.nand_model.specs.declared.geometry.Geometry.{Geometry}
use Rattle.page_tags.specs.declared.tag.Tag.{Tag}
use Rattle.flash_tree.specs.Summaries.{Summary, IsWholeSummary, MatchesBlock, BeginsSummary}
use Rattle.mount_scan.specs.FirstPages.{AreFirstsOf, BeginsWithTag, IsFirstPage}
use Rattle.mount_scan.specs.FoundCheckpoint.{ReadsAtMost}
use Rattle.mount_scan.specs.declared.fault.ScanFault.{ScanFault}
use Rattle.mount_scan.specs.declared.first_page.FirstPage.{FirstPage}
use Rattle.mount_scan.specs.declared.first_page.FirstPage.TheVariants as firsts
use Rattle.mount_scan.specs.declared.first_page.FirstPages.{FirstPages}
use Rattle.mount_scan.specs.declared.summary_pages.SummaryPages.{SummaryPages}
use Rattle.mount_scan.specs.declared.summary_scan.Rest.{Rest}

-- the sum of these numbers of the blocks below b
abbrev pub sum_below : (ℕ → ℕ) → ℕ → ℕ
sum_below each b = sum (map each (range_with_len 0 b))

-- a block that begins with a summary's first tag has no greater count there than this
abbrev pub AreSizes : Flash → (ℕ → ℕ) → Type 0
AreSizes flash sizes = (k : ℕ) (t : Tag) → BeginsWithTag flash k t → BeginsSummary t → t.count ≤ sizes k

-- no whole summary is of this block as it was allocated last
abbrev pub LacksSummary : Geometry → Flash → ℕ → Type 0
LacksSummary g flash b = (s : Summary) → IsWholeSummary g flash s → MatchesBlock flash s → s.head.block ≡ b → ⊥

-- a block was allocated after this one that begins with a page whose version is the number of its group: with one that is no copy
abbrev pub IsOlder : Flash → ℕ → Type 0
IsOlder flash b = (t : Tag) × BeginsWithTag flash b t × (k : ℕ) × (u : Tag) × BeginsWithTag flash k u × (u.version ≡ u.group) × (t.seq < u.seq)

-- So many pages of a block are read at most, where it has no summary and does not begin erased: all, or, where it is older than another
-- block, those up to its first erased page.
abbrev pub IsCost : Geometry → Flash → (b cost : ℕ) → Type 0
IsCost g flash b cost = flash.bad b ≡ false → flash.page b 0 ≢ Erased → LacksSummary g flash b
    → (g.pages ≤ cost) ⊎ (IsOlder flash b × ((q : ℕ) × (flash.page b q ≡ Erased) × (q < cost)))

-- and so of each block
abbrev pub AreCosts : Geometry → Flash → (ℕ → ℕ) → Type 0
AreCosts g flash costs = (b : ℕ) → IsCost g flash b (costs b)

-- Of any device: each page is read twice, at most.
abbrev pub ReadsTwice : {T : Type 0} → Device → Device → Result T ScanFault → Type 0
ReadsTwice old new result = ReadsAtMost (2 * old.geometry.pages * old.geometry.blocks) old new result

-- Of an honest device these pages are read at most: those of the summaries, all of a block that begins erased, and of the others that have
-- no summary as many as each costs.
abbrev pub ReadsByNeed : Device → Device → Type 0
ReadsByNeed old new = old.honest ≡ true → (sizes costs : ℕ → ℕ) → AreSizes old.flash sizes → AreCosts old.geometry old.flash costs
    → new.reads ≤ old.reads + sum_below sizes old.geometry.blocks + (old.geometry.pages + sum_below costs old.geometry.blocks)

-- Of an honest device so many pages are read at most of the blocks that have no summary: all of one that begins erased, and of the others
-- as many as each costs.
abbrev pub ReadsByCost : Device → (old new : Device) → Type 0
ReadsByCost device old new =
    device.honest ≡ true → (costs : ℕ → ℕ) → AreCosts device.geometry device.flash costs → new.reads ≤ old.reads + (device.geometry.pages + sum_below costs device.geometry.blocks)

-- how many pages the summary has that a block begins with, by the block's first page, and none if it begins with none
abbrev pub pages_of_summary : FirstPage → ℕ
pages_of_summary firsts.Bad = 0
pages_of_summary firsts.Erased = 0
pages_of_summary firsts.Untagged = 0
pages_of_summary (firsts.Tagged seq) = 0
pages_of_summary (firsts.Summary count number seq) = count

-- and of a block among those whose first pages are these
abbrev pub summary_size : List FirstPage → ℕ → ℕ
summary_size pages b = option_map_or pages_of_summary (slice_get pages b) 0

-- the pages of a summary of this block were added
abbrev pub IsNoted : SummaryPages → ℕ → Type 0
IsNoted summarized b = slice_get summarized.done.items b ≡ Some true

-- of an honest device: each whole summary in a block below b that matches its block is noted
abbrev pub AreDoneBelow : Device → ℕ → SummaryPages → Type 0
AreDoneBelow device b summarized = device.honest ≡ true → (s : Summary) → s.block < b → IsWholeSummary device.geometry device.flash s → MatchesBlock device.flash s → IsNoted summarized s.head.block

-- each block that has a summary is noted
abbrev pub AreAllDone : Geometry → Flash → List Bool → Type 0
AreAllDone g flash done = (b : ℕ) → slice_get done b ≡ Some false → LacksSummary g flash b

-- The first pages of a device were read, each of its blocks that has a summary is noted, and since then it was only read.
pub record NotesSummaries (d now : Device) (pages : FirstPages) (summarized : SummaryPages) : Type 0 where
  pub only : OnlyReads d now
  pub firsts_are : AreFirstsOf d pages
  pub done : AreAllDone d.geometry d.flash summarized.done.items

-- all pages of a block while none was read that begins erased, then none
abbrev pub erased_pages : Device → Bool → ℕ
erased_pages device erased = if erased then 0 else device.geometry.pages

-- the pages that were read, and those that may be read yet of a block that begins erased
abbrev pub reads_ahead : Device → Rest → ℕ
reads_ahead device rest = device.reads + erased_pages device rest.erased

-- of an honest device: the block begins so, is noted if it has a summary, and costs so much; and no block begins with a page of its own
-- group's number and a greater seq than this one
pub record IsOther (device : Device) (b : ℕ) (first : FirstPage) (summarized : Bool) (renewed cost : ℕ) : Type 0 where
  pub honest : device.honest ≡ true
  pub first_page : IsFirstPage device.flash b first
  pub noted : summarized ≡ false → LacksSummary device.geometry device.flash b
  pub latest : (k : ℕ) (t : Tag) → BeginsWithTag device.flash k t → t.version ≡ t.group → t.seq ≤ renewed
  pub cost_is : IsCost device.geometry device.flash b cost
