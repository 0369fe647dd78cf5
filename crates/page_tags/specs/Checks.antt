-- The bytes of a checkpoint: a head, and an entry for each page that the tree looks up.
-- From: the format: checkpoints, `FORMATS.md`.
use Rattle.std.specs.Prelude.{◌≡◌, ◌⊎◌, ◌<◌, ℕ, zero, suc, ◌*◌, ◌/◌, ◌^◌, List, [], ◌∷◌, ◌++◌, length, drop, replicate, flat_map, slice_get}
use Rattle.std.specs.List.{range_with_len}
use Rattle.std.specs.Option.{option_map_or}
use Rattle.byteorder.specs.Endian.{little_bytes, little_number}
use Rattle.page_tags.specs.declared.check.CheckEntry.{CheckEntry}

-- the 32 bytes of a head that says so many entries: NLFC, 1, and zeros round the number
unfoldable pub check_head_bytes : ℕ → List ℕ
check_head_bytes n = 78 ∷ 76 ∷ 70 ∷ 67 ∷ 1 ∷ 0 ∷ 0 ∷ 0 ∷ [] ++ little_bytes 8 n ++ replicate 16 0

-- the 32 bytes of an entry
unfoldable pub check_entry_bytes : CheckEntry → List ℕ
check_entry_bytes e = little_bytes 8 e.object ++ little_bytes 8 e.chunk ++ little_bytes 8 e.version ++ little_bytes 4 e.block ++ little_bytes 4 e.page

-- what the numbers of an entry may be
pub record IsCheckEntry (e : CheckEntry) : Type 0 where
  pub object : e.object < 2 ^ 64
  pub chunk : e.chunk < 2 ^ 64
  pub version : e.version < 2 ^ 64
  pub block : e.block < 2 ^ 32
  pub page : e.page < 2 ^ 32

-- what 32 bytes say as an entry
abbrev pub check_entry_in : List ℕ → CheckEntry
check_entry_in bytes = record {
  object = little_number 8 bytes;
  chunk = little_number 8 (drop 8 bytes);
  version = little_number 8 (drop 16 bytes);
  block = little_number 4 (drop 24 bytes);
  page = little_number 4 (drop 28 bytes);
}

-- part k of 32 bytes of a checkpoint with these entries: the head, then the entries, then zeros
abbrev pub check_slot : List CheckEntry → ℕ → List ℕ
check_slot entries zero = check_head_bytes (length entries)
check_slot entries (suc k) = option_map_or check_entry_bytes (slice_get entries k) (replicate 32 0)

-- its page i of d bytes
abbrev pub check_page : ℕ → List CheckEntry → ℕ → List ℕ
check_page d entries i = flat_map (check_slot entries) (range_with_len (i * (d / 32)) (d / 32))

-- one entry comes before another: by the object, then by the chunk
abbrev pub IsEntryBefore : CheckEntry → CheckEntry → Type 0
IsEntryBefore e f = (e.object < f.object) ⊎ ((e.object ≡ f.object) × (e.chunk < f.chunk))
