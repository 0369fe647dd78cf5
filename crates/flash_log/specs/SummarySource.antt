-- The pages of a block summary, as one group.
use Rattle.std.specs.Prelude.{◌≡◌, ◌≤◌, ℕ, ◌+◌, ◌*◌, List, length, take, drop}
use Rattle.volume_terms.specs.Rounding.{ceiling}
use Rattle.nand_model.specs.Flash.{Flash}
use Rattle.nand_model.specs.declared.geometry.Geometry.{Geometry}
use Rattle.page_tags.specs.Summaries.{summary_bytes}
use Rattle.page_tags.specs.declared.check.CheckEntry.{CheckEntry}
use Rattle.page_tags.specs.declared.summary_head.SummaryHead.{SummaryHead}
use Rattle.flash_tree.specs.Groups.{Group}
use Rattle.flash_tree.specs.Slots.{check_object}
use Rattle.flash_tree.specs.Summaries.{Summary, HasSummaryForm, summary_chunk}
use Rattle.transactions.specs.declared.source.PageName.{PageName}
use Rattle.transactions.specs.Groups.{AddsPages}
use Rattle.flash_log.specs.declared.summary_source.SummarySource.{SummarySource}

-- the most pages that a summary takes on a device of these sizes: those of a head, and of an entry for each page of a block
abbrev pub summary_size : Geometry → ℕ
summary_size g = ceiling (32 * (1 + g.pages)) g.bytes

-- what page i of a summary is called in the group of this number
abbrev pub summary_name : ℕ → ℕ → PageName
summary_name number i = record { key = record { object = check_object; chunk = summary_chunk + i }; version = number }

-- n bytes of a summary of so many bytes, from the part of 32 bytes of number k on
abbrev pub part_bytes : (size k n : ℕ) → SummaryHead → List CheckEntry → List ℕ
part_bytes size k n head entries = take n (drop (32 * k) (summary_bytes size head entries))

-- the data of page i of a summary, in whatever block it lies
abbrev pub source_page : SummarySource → ℕ → List ℕ
source_page s i = take s.geometry.bytes (drop (i * s.geometry.bytes) (summary_bytes (s.pages * s.geometry.bytes) s.head s.entries.now))

-- the summary that the pages are, where this group has them
abbrev pub summary_in : Group → SummarySource → Summary
summary_in group s = record { block = group.block; size = s.pages; number = group.number; seq = group.seq; head = s.head; entries = s.entries.now }

-- A summary can be a group of this number: its head counts its entries, and its pages are as many as these take behind a head, no more
-- than a block of such a device has.
pub record CanSummarize (source : SummarySource) (g : Geometry) (group : ℕ) : Type 0 where
  pub geometry : source.geometry ≡ g
  pub count : source.head.entries ≡ length source.entries.now
  pub pages : source.pages ≡ ceiling (32 * (1 + length source.entries.now)) g.bytes
  pub within_limit : source.pages ≤ g.pages
  pub number : 1 ≤ group

-- The group begins with its block, and was added with the pages of a summary of the form.
pub record AddsSummaryPages (source : SummarySource) (g : Geometry) (group : Group) (old new : Flash) : Type 0 where
  pub start : group.start ≡ 0
  pub size : group.size ≡ source.pages
  pub can : CanSummarize source g group.number
  pub form : HasSummaryForm g (summary_in group source)
  pub adds : AddsPages group (summary_name group.number) (source_page source) old new
