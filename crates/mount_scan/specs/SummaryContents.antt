-- What the bytes of a summary say.
use Rattle.std.specs.Prelude.{◌≡◌, ◌<◌, ◌≤◌, ℕ, ◌+◌, ◌*◌, ◌-◌, List, length, take, drop, map, slice_get, All, AllPairs, Some}
use Rattle.std.specs.List.{range_with_len}
use Rattle.volume_terms.specs.Rounding.{ceiling}
use Rattle.nand_model.specs.declared.geometry.Geometry.{Geometry}
use Rattle.page_tags.specs.Checks.{check_entry_in}
use Rattle.page_tags.specs.Summaries.{IsHead, head_bytes, summary_bytes}
use Rattle.page_tags.specs.declared.check.CheckEntry.{CheckEntry}
use Rattle.page_tags.specs.declared.summary_head.SummaryHead.{SummaryHead}
use Rattle.flash_tree.specs.Summaries.{IsEntryIn}

-- the entry in part k of 32 bytes behind the head
abbrev pub entry_at : List ℕ → ℕ → CheckEntry
entry_at bytes k = check_entry_in (take 32 (drop (32 * (1 + k)) bytes))

-- the first n entries
abbrev pub entries_in : List ℕ → ℕ → List CheckEntry
entries_in bytes n = map (entry_at bytes) (range_with_len 0 n)

-- the entry is the last of the list
abbrev pub IsLast : List CheckEntry → CheckEntry → Type 0
IsLast es e = slice_get es (length es - 1) ≡ Some e

-- entries that a summary with this head may have: of pages of the block that it names, which rise
pub record AreListed (g : Geometry) (head : SummaryHead) (es : List CheckEntry) : Type 0 where
  pub each : All (IsEntryIn g head) es
  pub rise : AllPairs (λ (e f : CheckEntry). e.page < f.page) es

-- an entry that may come after these
pub record MayCome (g : Geometry) (head : SummaryHead) (es : List CheckEntry) (e : CheckEntry) : Type 0 where
  pub block : e.block ≡ head.block
  pub page : e.page < g.pages
  pub after : (last : CheckEntry) → IsLast es last → last.page < e.page

-- The bytes begin with this head, which names a block of the device and no more entries than a block has pages; and these take so many
-- pages.
pub record BeginsWith (g : Geometry) (count : ℕ) (bytes : List ℕ) (head : SummaryHead) : Type 0 where
  pub valid : IsHead head
  pub said : take 32 bytes ≡ head_bytes head
  pub block : head.block < g.blocks
  pub within_limit : head.entries ≤ g.pages
  pub size : count ≡ ceiling (32 * (1 + head.entries)) g.bytes

-- The bytes, of so many pages, are those of a summary with this head and these entries.
pub record Says (g : Geometry) (count : ℕ) (bytes : List ℕ) (head : SummaryHead) (es : List CheckEntry) : Type 0 where
  pub valid : IsHead head
  pub number : head.entries ≡ length es
  pub block : head.block < g.blocks
  pub size : count ≡ ceiling (32 * (1 + length es)) g.bytes
  pub listed : AreListed g head es
  pub is : bytes ≡ summary_bytes (length bytes) head es

-- they are those of no summary
abbrev pub SaysNone : Geometry → ℕ → List ℕ → Type 0
SaysNone g count bytes = (head : SummaryHead) (es : List CheckEntry) → Says g count bytes head es → ⊥
