-- What is known in the midst of a scan by summaries.
use Rattle.std.specs.Prelude.{◌≡◌, ◌≢◌, ◌⊎◌, ◌<◌, ◌≤◌, ◌^◌, ℕ, Bool, true, false, List, Some, length, slice_get, Contains}
use Rattle.nand_model.specs.Flash.{Flash}
use Rattle.nand_model.specs.Calls.{Device}
use Rattle.nand_model.specs.declared.geometry.Geometry.{Geometry}
use Rattle.page_tags.specs.declared.tag.Tag.{Tag}
use Rattle.page_tags.specs.declared.check.CheckEntry.{CheckEntry}
use Rattle.flash_tree.specs.Groups.{HasTag}
use Rattle.flash_tree.specs.Newest.{Spot, Holds, IsAfter, Numbers}
use Rattle.flash_tree.specs.Places.{numbers_of}
use Rattle.flash_tree.specs.Summaries.{Summary, HasSummaryForm, IsWholeSummary, MatchesBlock, claimed}
use Rattle.flash_tree.specs.ErasedBlocks.{BeginsErased}
use Rattle.mount_scan.specs.Blocks.{numbers_in, AreAtMost}
use Rattle.mount_scan.specs.Copies.{HasValidName, copy_at, spot_of_copy}
use Rattle.mount_scan.specs.Keys.{HaveOneKey}
use Rattle.mount_scan.specs.Latest.{IsCountedCopy}
use Rattle.mount_scan.specs.Listed.{listed}
use Rattle.mount_scan.specs.WrittenBlocks.{IsWrittenUpTo}
use Rattle.mount_scan.specs.FewReads.{IsOlder}
use Rattle.mount_scan.specs.FirstPages.{IsFirstPage, AreAboveFirsts, AreNoneAbove, BeginsRenewed}
use Rattle.mount_scan.specs.declared.page_copy.PageCopy.{PageCopy}
use Rattle.mount_scan.specs.declared.first_page.FirstPage.{FirstPage}
use Rattle.mount_scan.specs.declared.first_page.FirstPage.TheVariants as firsts
use Rattle.mount_scan.specs.declared.answer.NewestScan.{NewestScan}
use Rattle.mount_scan.specs.declared.summary_pages.SummaryPages.{SummaryPages}
use Rattle.mount_scan.specs.declared.summary_scan.Rest.{Rest}

-- an entry of a whole summary that matches its block names the page of the copy
pub record IsNamedCopy (g : Geometry) (flash : Flash) (x : PageCopy) : Type 0 where
  pub summary : Summary
  pub whole : IsWholeSummary g flash summary
  pub matches : MatchesBlock flash summary
  pub entry : CheckEntry
  pub has : Contains summary.entries entry
  pub copied : copy_at (claimed summary entry) ≡ x

-- What is known of the pages that were found: of any device they are places of it, of chunks that a tree may look up, and named as a
-- valid tag may name them; of an honest one each is valid, or an entry names it.
pub record HasKnown (device : Device) (list : List PageCopy) : Type 0 where
  pub placed : (f : PageCopy) → Contains list f → (f.block < device.geometry.blocks) × (f.page < device.geometry.pages)
  pub low : (f : PageCopy) → Contains list f → f.chunk < 2 ^ 32
  pub named : (f : PageCopy) → Contains list f → HasValidName f
  pub known : device.honest ≡ true → (f : PageCopy) → Contains list f → IsCountedCopy device.flash f ⊎ IsNamedCopy device.geometry device.flash f

-- the list has a page of the key of this one, which this one does not come after
abbrev pub HasAsNew : List PageCopy → Spot → Type 0
HasAsNew list s = (f : PageCopy) × Contains list f × HaveOneKey f (copy_at s) × (IsAfter s (spot_of_copy f) → ⊥)

-- for each valid page of the block, of a chunk that a tree may look up
abbrev pub CoversBlock : Flash → ℕ → List PageCopy → Type 0
CoversBlock flash b list = (s : Spot) → s.block ≡ b → s.tag.chunk < 2 ^ 32 → Holds flash s.tag.object s.tag.chunk s → HasAsNew list s

-- the entry is of such a chunk, and of an object and a version that a valid tag may have
abbrev pub MayBeFound : CheckEntry → Type 0
MayBeFound e = (e.chunk < 2 ^ 32) × (1 ≤ e.object) × (1 ≤ e.version)

-- for each page that the summary names so
abbrev pub CoversSummary : Summary → List PageCopy → Type 0
CoversSummary s list = (e : CheckEntry) → Contains s.entries e → MayBeFound e → HasAsNew list (claimed s e)

-- all tags of the block were read
pub record IsReadBlock (flash : Flash) (b : ℕ) (list : List PageCopy) (n : Numbers) : Type 0 where
  pub pages : CoversBlock flash b list
  pub numbers : (l : ℕ) (t : Tag) → HasTag flash b l t → AreAtMost (numbers_in t) n

-- pages of a whole summary that matches the block were added
pub record IsSummarizedBlock (g : Geometry) (flash : Flash) (b : ℕ) (list : List PageCopy) : Type 0 where
  pub summary : Summary
  pub whole : IsWholeSummary g flash summary
  pub matches : MatchesBlock flash summary
  pub block : summary.head.block ≡ b
  pub pages : CoversSummary summary list

-- The tags of the block were read up to the first erased page, and another begins with a page of a greater seq, whose version is the
-- number of its group.
pub record IsReadOlder (flash : Flash) (b : ℕ) (list : List PageCopy) : Type 0 where
  pub pages : (s : Spot) → s.block ≡ b → s.tag.chunk < 2 ^ 32 → Holds flash s.tag.object s.tag.chunk s → IsWrittenUpTo flash b s.page → HasAsNew list s
  pub older : IsOlder flash b

-- the block begins with an erased page, and so does one before it
pub record IsBehindErased (flash : Flash) (b : ℕ) : Type 0 where
  pub erased : BeginsErased flash b
  pub other : ℕ
  pub before : other < b
  pub first : BeginsErased flash other

-- why no more of the block's tags have to be read
abbrev pub IsScanned : Geometry → Flash → ℕ → List PageCopy → Numbers → Type 0
IsScanned g flash b list n = IsReadBlock flash b list n ⊎ (IsSummarizedBlock g flash b list ⊎ (IsBehindErased flash b ⊎ IsReadOlder flash b list))

-- the blocks that are noted have summaries, whose pages were added
abbrev pub AreSummarized : Geometry → Flash → List Bool → List PageCopy → Type 0
AreSummarized g flash done list = (k : ℕ) → slice_get done k ≡ Some true → IsSummarizedBlock g flash k list

-- What is known once some summaries were read.
pub record AreSummaryPages (device : Device) (summarized : SummaryPages) : Type 0 where
  pub len : length summarized.done.items ≡ device.geometry.blocks
  pub known : HasKnown device (listed summarized.newest)
  pub blocks : device.honest ≡ true → AreSummarized device.geometry device.flash summarized.done.items (listed summarized.newest)

-- of any device the summary is of the form, and of an honest one whole
pub record MayBeAdded (device : Device) (s : Summary) : Type 0 where
  pub form : HasSummaryForm device.geometry s
  pub whole : device.honest ≡ true → IsWholeSummary device.geometry device.flash s

-- the tags of a block are read, unless it is bad, or has a summary, or begins erased as one before it does
pub record IsLeft (first : FirstPage) (summarized erased : Bool) : Type 0 where
  pub good : first ≡ firsts.Bad → ⊥
  pub other : summarized ≡ false
  pub written : first ≡ firsts.Erased → erased ≡ false

-- What is known once the blocks below b were scanned, some by their summaries: what the pages are that were found, why no more of these
-- blocks have to be read, and that the numbers are the greatest of all tags that were.
pub record IsScannedBelow (device : Device) (b : ℕ) (list : List PageCopy) (n : Numbers) : Type 0 where
  pub known : HasKnown device list
  pub scanned : device.honest ≡ true → (k : ℕ) → k < b → device.flash.bad k ≡ false → IsScanned device.geometry device.flash k list n
  pub above : device.honest ≡ true → AreAboveFirsts device.flash device.geometry.blocks n
  pub least : device.honest ≡ true → AreNoneAbove device.flash n

-- the whole device was scanned
abbrev pub IsScannedAll : Device → NewestScan → Type 0
IsScannedAll device scan = IsScannedBelow device device.geometry.blocks (listed scan.newest) (numbers_of scan.numbers)

-- And what is known for the blocks to come: the pages of the summaries are still there, and whether a block was read that begins erased.
pub record IsRestBelow (device : Device) (done : List Bool) (b : ℕ) (rest : Rest) : Type 0 where
  pub below : IsScannedBelow device b (listed rest.newest) (numbers_of rest.seen.numbers)
  pub summarized : device.honest ≡ true → AreSummarized device.geometry device.flash done (listed rest.newest)
  pub erased : device.honest ≡ true → rest.erased ≡ true → (j : ℕ) × (j < b) × BeginsErased device.flash j
  pub renewed : device.honest ≡ true → rest.renewed ≢ 0 → BeginsRenewed device.flash rest.renewed

-- the block has this first page, and is noted as summarized or not
pub record IsNextBlock (device : Device) (b : ℕ) (done : List Bool) (first : FirstPage) (summarized : Bool) : Type 0 where
  pub block : b < device.geometry.blocks
  pub first_page : device.honest ≡ true → IsFirstPage device.flash b first
  pub noted : slice_get done b ≡ Some summarized
