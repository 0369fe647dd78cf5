-- The first pages of blocks.
use Rattle.std.specs.Prelude.{◌≡◌, ◌≢◌, ◌<◌, ◌≤◌, ℕ, max, true, false, List, Option, Some, None, IfSome, length, slice_get}
use Rattle.nand_model.specs.Flash.{Flash, Erased}
use Rattle.nand_model.specs.Calls.{Device}
use Rattle.nand_model.specs.Changes.{OnlyReads}
use Rattle.page_tags.specs.declared.tag.Tag.{Tag}
use Rattle.flash_tree.specs.Groups.{HasTag}
use Rattle.flash_tree.specs.Newest.{Numbers, AreAbove}
use Rattle.flash_tree.specs.Places.{numbers_of}
use Rattle.flash_tree.specs.Slots.{check_object}
use Rattle.flash_tree.specs.Summaries.{BeginsSummary, summary_chunk}
use Rattle.flash_tree.specs.ErasedBlocks.{BeginsErased}
use Rattle.mount_scan.specs.Blocks.{numbers_in, AreAtMost, IsRaisedTo}
use Rattle.mount_scan.specs.CheckpointCandidates.{IsGoodTag, IsCandidate, IsGreatestBelow}
use Rattle.mount_scan.specs.declared.first_page.FirstRead.{FirstRead}
use Rattle.mount_scan.specs.declared.first_page.FirstRead.TheVariants as reads
use Rattle.mount_scan.specs.declared.first_page.FirstPage.{FirstPage}
use Rattle.mount_scan.specs.declared.first_page.FirstPage.TheVariants as firsts
use Rattle.mount_scan.specs.declared.first_page.FirstPages.{FirstPages}
use Rattle.mount_scan.specs.declared.first_page.FirstReads.{FirstReads}

-- the tag of the first page of a summary of so many pages, with these numbers
abbrev pub first_tag : (count number seq : ℕ) → Tag
first_tag count number seq = record { index = 0; count = count; object = check_object; chunk = summary_chunk; version = number; group = number; seq = seq }

-- the first page of a good block is not erased, and has no valid tag
abbrev pub BeginsUntagged : Flash → ℕ → Type 0
BeginsUntagged flash b = (flash.bad b ≡ false) × (flash.page b 0 ≢ Erased) × ((t : Tag) → HasTag flash b 0 t → ⊥)

-- the first page of a good block has this tag
abbrev pub BeginsWithTag : Flash → ℕ → Tag → Type 0
BeginsWithTag flash b t = (flash.bad b ≡ false) × HasTag flash b 0 t

-- the tag is not that of the first page of a whole summary
abbrev pub IsNoSummaryTag : Tag → Type 0
IsNoSummaryTag t = BeginsSummary t → t.version ≡ t.group → ⊥

-- the first page of the block is what was read
abbrev pub IsFirstRead : Flash → ℕ → FirstRead → Type 0
IsFirstRead flash b reads.Bad = flash.bad b ≡ true
IsFirstRead flash b reads.Erased = BeginsErased flash b
IsFirstRead flash b reads.Untagged = BeginsUntagged flash b
IsFirstRead flash b (reads.Tagged t) = BeginsWithTag flash b t

-- of any device: a tag that was read is valid, and of a good block
abbrev pub IsGoodRead : Device → ℕ → FirstRead → Type 0
IsGoodRead device b reads.Bad = Unit {0}
IsGoodRead device b reads.Erased = Unit {0}
IsGoodRead device b reads.Untagged = Unit {0}
IsGoodRead device b (reads.Tagged t) = IsGoodTag device b t

-- the first page of the block is what was noted
abbrev pub IsFirstPage : Flash → ℕ → FirstPage → Type 0
IsFirstPage flash b firsts.Bad = flash.bad b ≡ true
IsFirstPage flash b firsts.Erased = BeginsErased flash b
IsFirstPage flash b firsts.Untagged = BeginsUntagged flash b
IsFirstPage flash b (firsts.Tagged seq) = (t : Tag) × BeginsWithTag flash b t × (t.seq ≡ seq) × IsNoSummaryTag t
IsFirstPage flash b (firsts.Summary count number seq) = BeginsWithTag flash b (first_tag count number seq)

-- of any device: the tag of a summary's first page is valid, and of a good block
abbrev pub IsGoodFirst : Device → ℕ → FirstPage → Type 0
IsGoodFirst device b firsts.Bad = Unit {0}
IsGoodFirst device b firsts.Erased = Unit {0}
IsGoodFirst device b firsts.Untagged = Unit {0}
IsGoodFirst device b (firsts.Tagged seq) = Unit {0}
IsGoodFirst device b (firsts.Summary count number seq) = IsGoodTag device b (first_tag count number seq)

-- the seq of a first page, if it has a tag
abbrev pub seq_of_first : FirstPage → Option ℕ
seq_of_first firsts.Bad = None
seq_of_first firsts.Erased = None
seq_of_first firsts.Untagged = None
seq_of_first (firsts.Tagged seq) = Some seq
seq_of_first (firsts.Summary count number seq) = Some seq

-- the tag of a first page, if it may begin a summary
abbrev pub tag_of_summary : FirstPage → Option Tag
tag_of_summary firsts.Bad = None
tag_of_summary firsts.Erased = None
tag_of_summary firsts.Untagged = None
tag_of_summary (firsts.Tagged seq) = None
tag_of_summary (firsts.Summary count number seq) = Some (first_tag count number seq)

-- the first page of a block has a tag with this seq
abbrev pub HasSeqAt : List FirstPage → (block seq : ℕ) → Type 0
HasSeqAt pages b seq = (first : FirstPage) × (slice_get pages b ≡ Some first) × (seq_of_first first ≡ Some seq)

-- the numbers are raised to those of a tag that was read, if one was
abbrev pub IsRaisedToRead : FirstRead → Numbers → Numbers → Type 0
IsRaisedToRead reads.Bad old new = new ≡ old
IsRaisedToRead reads.Erased old new = new ≡ old
IsRaisedToRead reads.Untagged old new = new ≡ old
IsRaisedToRead (reads.Tagged t) old new = IsRaisedTo t old new

-- a seq is raised to that of a tag that was read, where the tag's version is the number of its group
abbrev pub IsRenewedBy : FirstRead → (old new : ℕ) → Type 0
IsRenewedBy reads.Bad old new = new ≡ old
IsRenewedBy reads.Erased old new = new ≡ old
IsRenewedBy reads.Untagged old new = new ≡ old
IsRenewedBy (reads.Tagged t) old new = (t.version ≡ t.group → new ≡ max old t.seq) × (t.version ≢ t.group → new ≡ old)

-- a good block begins with a tag of this seq, whose version is the number of its group
abbrev pub BeginsRenewed : Flash → ℕ → Type 0
BeginsRenewed flash seq = (k : ℕ) × (t : Tag) × BeginsWithTag flash k t × (t.version ≡ t.group) × (t.seq ≡ seq)

-- no good block below b begins so with a greater seq
abbrev pub IsRenewedBelow : Flash → (b seq : ℕ) → Type 0
IsRenewedBelow flash b seq = (k : ℕ) (t : Tag) → k < b → BeginsWithTag flash k t → t.version ≡ t.group → t.seq ≤ seq

-- the first page has a tag of a lower seq than this one
abbrev pub IsOlderThan : ℕ → FirstPage → Type 0
IsOlderThan seq first = (s : ℕ) × (seq_of_first first ≡ Some s) × (s < seq)

-- the tag that was read, if one was
abbrev pub tag_of_read : FirstRead → Option Tag
tag_of_read reads.Bad = None
tag_of_read reads.Erased = None
tag_of_read reads.Untagged = None
tag_of_read (reads.Tagged t) = Some t

-- what is noted of the first page of each block
abbrev pub AreFirstPages : Flash → List FirstPage → Type 0
AreFirstPages flash pages = (b : ℕ) (first : FirstPage) → slice_get pages b ≡ Some first → IsFirstPage flash b first

abbrev pub AreGoodFirsts : Device → List FirstPage → Type 0
AreGoodFirsts device pages = (b : ℕ) (first : FirstPage) → slice_get pages b ≡ Some first → IsGoodFirst device b first

-- What was noted of a device's blocks, or of the lower ones.
pub record AreNoted (device : Device) (b : ℕ) (pages : List FirstPage) : Type 0 where
  pub len : length pages ≡ b
  pub good : AreGoodFirsts device pages
  pub noted : device.honest ≡ true → AreFirstPages device.flash pages

-- what was noted of all blocks of a device
abbrev pub AreAllNoted : Device → List FirstPage → Type 0
AreAllNoted device pages = AreNoted device device.geometry.blocks pages

-- That was noted of a device, and since then it was only read.
pub record KeepsNoted (d now : Device) (pages : List FirstPage) : Type 0 where
  pub only : OnlyReads d now
  pub noted : AreAllNoted d pages

-- no tag of the first page of a good block below b has a number above these
abbrev pub AreAboveFirsts : Flash → ℕ → Numbers → Type 0
AreAboveFirsts flash b n = (k : ℕ) (t : Tag) → k < b → BeginsWithTag flash k t → AreAtMost (numbers_in t) n

-- numbers that no tag of a good block is above are not less than these
abbrev pub AreNoneAbove : Flash → Numbers → Type 0
AreNoneAbove flash n = (m : Numbers) → AreAbove flash m → AreAtMost n m

-- What was read of the first pages of the blocks below b.
pub record FirstPagesBelow (device : Device) (b : ℕ) (firsts : FirstPages) : Type 0 where
  pub noted : AreNoted device b firsts.pages.items
  pub above : device.honest ≡ true → AreAboveFirsts device.flash b (numbers_of firsts.numbers)
  pub least : device.honest ≡ true → AreNoneAbove device.flash (numbers_of firsts.numbers)
  pub renewed : device.honest ≡ true → firsts.renewed ≢ 0 → BeginsRenewed device.flash firsts.renewed
  pub latest : device.honest ≡ true → IsRenewedBelow device.flash b firsts.renewed

-- what was read of the first pages of a device
abbrev pub AreFirstsOf : Device → FirstPages → Type 0
AreFirstsOf device firsts = FirstPagesBelow device device.geometry.blocks firsts

-- What was read of those of the blocks below b, and the best of these blocks that may begin a checkpoint.
pub record FirstReadsBelow (device : Device) (b : ℕ) (r : FirstReads) : Type 0 where
  pub pages : FirstPagesBelow device b r.firsts
  pub candidate : IfSome r.best (IsCandidate device)
  pub best : device.honest ≡ true → IsGreatestBelow device.flash b r.best
