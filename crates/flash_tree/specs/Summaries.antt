-- Block summaries on a flash: lists of the valid pages of other blocks.
-- From: the format: block summaries, `FORMATS.md`.
use Rattle.std.specs.Prelude.{◌≡◌, ◌≢◌, ◌<◌, ℕ, ◌+◌, ◌*◌, ◌^◌, false, List, length, take, drop, All, AllPairs, Contains}
use Rattle.volume_terms.specs.Rounding.{ceiling}
use Rattle.nand_model.specs.Flash.{Flash, Erased}
use Rattle.nand_model.specs.declared.geometry.Geometry.{Geometry}
use Rattle.page_tags.specs.declared.tag.Tag.{Tag}
use Rattle.page_tags.specs.Checks.{IsCheckEntry}
use Rattle.page_tags.specs.Summaries.{IsHead, summary_bytes}
use Rattle.page_tags.specs.declared.check.CheckEntry.{CheckEntry}
use Rattle.page_tags.specs.declared.summary_head.SummaryHead.{SummaryHead}
use Rattle.flash_tree.specs.Checkpoints.{entry_of}
use Rattle.flash_tree.specs.ErasedBlocks.{OnlyFirstHasTags}
use Rattle.flash_tree.specs.Groups.{HasTag, Group, AllThere}
use Rattle.flash_tree.specs.Newest.{Spot, IsAfter, IsNewest}
use Rattle.flash_tree.specs.Slots.{check_object}

-- the chunk of a summary's first page, which is of the object of checkpoints; a checkpoint's chunks are far below
abbrev pub summary_chunk : ℕ
summary_chunk = 2 ^ 31

-- the tag of a summary's first page
abbrev pub BeginsSummary : Tag → Type 0
BeginsSummary t = (t.object ≡ check_object) × (t.chunk ≡ summary_chunk) × (t.index ≡ 0)

-- A summary by its block, the number of its pages, the number of its group and the block's seq; and by what it says: its head, and an
-- entry for each page that it lists.
pub record Summary : Type 0 where
  pub block : ℕ
  pub size : ℕ
  pub number : ℕ
  pub seq : ℕ
  pub head : SummaryHead
  pub entries : List CheckEntry

-- its group, which begins with the block
abbrev pub summary_group : Summary → Group
summary_group s = record { block = s.block; start = 0; size = s.size; number = s.number; seq = s.seq }

-- the tag of its page i
abbrev pub summary_tag : Summary → ℕ → Tag
summary_tag s i = record { index = i; count = s.size; object = check_object; chunk = summary_chunk + i; version = s.number; group = s.number; seq = s.seq }

-- the data of its page i, of d bytes
abbrev pub summary_page : ℕ → Summary → ℕ → List ℕ
summary_page d s i = take d (drop (i * d) (summary_bytes (s.size * d) s.head s.entries))

-- an entry that a summary may have: of a page of the block that its head names, on a device of these sizes
pub record IsEntryIn (g : Geometry) (head : SummaryHead) (e : CheckEntry) : Type 0 where
  pub entry : IsCheckEntry e
  pub block : e.block ≡ head.block
  pub page : e.page < g.pages

-- What a summary says is of the form: its head counts its entries, and these are of a block of the device, and rise by their pages.
pub record HasSummaryForm (g : Geometry) (s : Summary) : Type 0 where
  pub size : s.size ≡ ceiling (32 * (1 + length s.entries)) g.bytes
  pub head : IsHead s.head
  pub count : s.head.entries ≡ length s.entries
  pub block : s.head.block < g.blocks
  pub each : All (IsEntryIn g s.head) s.entries
  pub rise : AllPairs (λ (e f : CheckEntry). e.page < f.page) s.entries

-- The summary is whole: its group is valid, and its pages are what a summary of the form says.
pub record IsWholeSummary (g : Geometry) (flash : Flash) (s : Summary) : Type 0 where
  pub good : flash.bad s.block ≡ false
  pub form : HasSummaryForm g s
  pub pages : AllThere (summary_group s) (summary_tag s) (summary_page g.bytes s) flash

-- The summary is of its block as that was allocated last: page 0 there has the seq that the head names.
pub record MatchesBlock (flash : Flash) (s : Summary) : Type 0 where
  pub good : flash.bad s.head.block ≡ false
  pub tag : Tag
  pub has : HasTag flash s.head.block 0 tag
  pub seq : tag.seq ≡ s.head.seq

-- the page is listed, and has the seq that the head names
abbrev pub IsListed : Summary → Spot → Type 0
IsListed s p = Contains s.entries (entry_of p) × (p.tag.seq ≡ s.head.seq)

-- The numbers of tags rise with the blocks: all tags of a block have one seq, and where a tag has a greater seq than another, its group
-- has a greater number too.
pub record AreTagsOrdered (flash : Flash) : Type 0 where
  pub one : (b l m : ℕ) (t u : Tag) → flash.bad b ≡ false → HasTag flash b l t → HasTag flash b m u → t.seq ≡ u.seq
  pub rise : (b k l m : ℕ) (t u : Tag) → flash.bad b ≡ false → flash.bad k ≡ false → HasTag flash b l t → HasTag flash k m u → t.seq < u.seq → t.group < u.group

-- What holds of each whole summary of a flash, wherever power was lost: its block was allocated after the one that it names, and no
-- version that it lists is above its number; and where it matches that block, the numbers of all tags there are below its own. The
-- numbers of all tags rise with their blocks.
pub record AreSummariesRight (g : Geometry) (flash : Flash) : Type 0 where
  pub older : (s : Summary) → IsWholeSummary g flash s → s.head.seq < s.seq
  pub versions : (s : Summary) (e : CheckEntry) → IsWholeSummary g flash s → Contains s.entries e → e.version < s.number
  pub below : (s : Summary) (l : ℕ) (t : Tag) → IsWholeSummary g flash s → MatchesBlock flash s → HasTag flash s.head.block l t → (t.group < s.number) × (t.seq < s.seq)
  pub ordered : AreTagsOrdered flash

-- A mount may go by the summaries of the flash: each is right, and of the blocks that begin with an erased page the first alone has tags.
pub record IsSummarized (g : Geometry) (flash : Flash) : Type 0 where
  pub right : AreSummariesRight g flash
  pub first : OnlyFirstHasTags flash

-- the place that an entry names, with what the order of pages depends on: the version, and the seq of the head
abbrev pub claimed : Summary → CheckEntry → Spot
claimed s e = record { block = e.block; page = e.page; tag = record { index = 0; count = 0; object = e.object; chunk = e.chunk; version = e.version; group = 0; seq = s.head.seq } }

-- Each of these keys has a newest page, which a mount by summaries finds: a summary that matches its block lists it, no entry of such a
-- summary comes after it, and no erased page lies before it in its block.
pub record AreFindable (g : Geometry) (flash : Flash) (keys : ℕ → ℕ → Type 0) : Type 0 where
  pub ordinary : (o c : ℕ) → keys o c → o ≢ check_object
  pub there : (o c : ℕ) → keys o c → (p : Spot) × IsNewest flash o c p
  pub listed : (s : Summary) (o c : ℕ) (p : Spot) → IsWholeSummary g flash s → MatchesBlock flash s → keys o c → IsNewest flash o c p → p.block ≡ s.head.block → IsListed s p
  pub latest : (s : Summary) (e : CheckEntry) (p : Spot) → IsWholeSummary g flash s → MatchesBlock flash s → Contains s.entries e
      → keys e.object e.chunk → IsNewest flash e.object e.chunk p → IsAfter (claimed s e) p → ⊥
  pub in_order : (o c l : ℕ) (p : Spot) → keys o c → IsNewest flash o c p → l < p.page → flash.page p.block l ≢ Erased
