-- The bytes of a block summary: a head, and an entry for each page that is listed.
-- From: the format: block summaries, `FORMATS.md`.
use Rattle.std.specs.Prelude.{◌<◌, ℕ, ◌+◌, ◌*◌, ◌-◌, ◌^◌, List, [], ◌∷◌, ◌++◌, length, drop, replicate, flat_map}
use Rattle.byteorder.specs.Endian.{little_bytes, little_number}
use Rattle.page_tags.specs.Checks.{check_entry_bytes}
use Rattle.page_tags.specs.declared.check.CheckEntry.{CheckEntry}
use Rattle.page_tags.specs.declared.summary_head.SummaryHead.{SummaryHead}

-- the 32 bytes of a head: NLFB, 1, three zeros, the block, how many entries, the block's number, and eight zeros
unfoldable pub head_bytes : SummaryHead → List ℕ
head_bytes h = 78 ∷ 76 ∷ 70 ∷ 66 ∷ 1 ∷ 0 ∷ 0 ∷ 0 ∷ [] ++ little_bytes 4 h.block ++ little_bytes 4 h.entries ++ little_bytes 8 h.seq ++ replicate 8 0

-- what the numbers of a head may be
pub record IsHead (h : SummaryHead) : Type 0 where
  pub block : h.block < 2 ^ 32
  pub entries : h.entries < 2 ^ 32
  pub seq : h.seq < 2 ^ 64

-- what 32 bytes say as a head
abbrev pub head_in : List ℕ → SummaryHead
head_in bytes = record { block = little_number 4 (drop 8 bytes); entries = little_number 4 (drop 12 bytes); seq = little_number 8 (drop 16 bytes) }

-- the bytes of a summary that takes so many: the head, each entry as a checkpoint has it, and zeros behind the last
abbrev pub summary_bytes : (size : ℕ) → SummaryHead → List CheckEntry → List ℕ
summary_bytes size head entries = head_bytes head ++ flat_map check_entry_bytes entries ++ replicate (size - 32 * (1 + length entries)) 0
