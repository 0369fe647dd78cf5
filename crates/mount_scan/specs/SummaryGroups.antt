-- The pages of a summary, by the tag of the first.
use Rattle.std.specs.Prelude.{◌≡◌, ◌<◌, ◌≤◌, ℕ, ◌+◌, ◌*◌, true, List, take, drop}
use Rattle.nand_model.specs.Flash.{Flash, Written}
use Rattle.nand_model.specs.Calls.{Device}
use Rattle.page_tags.specs.declared.tag.Tag.{Tag}
use Rattle.page_tags.specs.Tags.{tag_bytes}
use Rattle.flash_tree.specs.Slots.{check_object}
use Rattle.flash_tree.specs.Summaries.{summary_chunk, BeginsSummary}

-- the tag of page i of a summary whose first page has this tag
abbrev pub page_tag : Tag → ℕ → Tag
page_tag t i = record { index = i; count = t.count; object = check_object; chunk = summary_chunk + i; version = t.group; group = t.group; seq = t.seq }

-- the tag may be that of the first page of a summary, in a block of so many pages
pub record MayBegin (pages : ℕ) (t : Tag) : Type 0 where
  pub begins : BeginsSummary t
  pub version : t.version ≡ t.group
  pub room : t.count ≤ pages

-- page i of the block has these bytes and the tag of page i of the summary
abbrev pub IsTagged : Flash → ℕ → Tag → ℕ → List ℕ → Type 0
IsTagged flash block first i bytes = flash.page block i ≡ Written bytes (tag_bytes (page_tag first i))

-- it has another tag or none
abbrev pub IsUntagged : Flash → ℕ → Tag → ℕ → Type 0
IsUntagged flash block first i = (bytes : List ℕ) → IsTagged flash block first i bytes → ⊥

-- page i of d bytes, of bytes that are those of pages one after the other
abbrev pub page_in : ℕ → List ℕ → ℕ → List ℕ
page_in d bytes i = take d (drop (i * d) bytes)

-- the first n pages are as they were
abbrev pub KeepsPages : ℕ → ℕ → List ℕ → List ℕ → Type 0
KeepsPages d n old new = (i : ℕ) → i < n → page_in d new i ≡ page_in d old i

-- of an honest device: page i of the block has the data that are page i here, and its tag
abbrev pub HasPage : Device → ℕ → Tag → ℕ → List ℕ → Type 0
HasPage device block first i bytes = device.honest ≡ true → IsTagged device.flash block first i (page_in device.geometry.bytes bytes i)

-- and so has each of the first n
abbrev pub HasPages : Device → ℕ → Tag → ℕ → List ℕ → Type 0
HasPages device block first n bytes = (i : ℕ) → i < n → HasPage device block first i bytes

-- of an honest device: one of the summary's pages has another tag or none
abbrev pub LacksPage : Device → ℕ → Tag → Type 0
LacksPage device block first = device.honest ≡ true → (i : ℕ) × (i < first.count) × IsUntagged device.flash block first i
