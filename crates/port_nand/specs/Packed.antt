-- The 24 bytes of a packed tag.
-- From: the format: packed tags, `FORMATS.md`.
use Rattle.std.specs.Prelude.{◌≡◌, ℕ, ◌+◌, ◌-◌, ◌%◌, ◌^◌, List, [], ◌∷◌, ◌++◌, drop, map, slice_index, nat_le, if◌then◌else◌}
use Rattle.byteorder.specs.Endian.{little_number}
use Rattle.nand_model.specs.Flash.{AreBytes}
use Rattle.page_tags.specs.declared.tag.Tag.{Tag}
use Rattle.page_tags.specs.Tags.{tag_bytes}

-- The object that a number of four bytes represents: the greatest two are the greatest two of eight bytes, held for checkpoints.
unfoldable pub object_of : ℕ → ℕ
object_of n = if nat_le (2 ^ 32 - 2) n then n + (2 ^ 64 - 2 ^ 32) else n

-- What 24 bytes say. Versions and groups of 5 bytes suffice: a part is worn out long before 2^40 programs.
abbrev pub packed_tag_in : List ℕ → Tag
packed_tag_in packed = record {
  index = little_number 1 packed;
  count = little_number 1 (drop 1 packed) + 1;
  object = object_of (little_number 4 (drop 2 packed));
  chunk = little_number 4 (drop 6 packed);
  version = little_number 5 (drop 10 packed);
  group = little_number 5 (drop 15 packed);
  seq = little_number 4 (drop 20 packed);
}

-- the 48 bytes of the tag that 24 bytes say
unfoldable pub unpacked : List ℕ → List ℕ
unpacked packed = tag_bytes (packed_tag_in packed)

-- these 24 bytes say the tag
abbrev pub PacksTo : (tag packed : List ℕ) → Type 0
PacksTo tag packed = AreBytes 24 packed × (unpacked packed ≡ tag)

-- the lowest bytes of the fields of a tag, and one less than the lowest of the count: no other 24 bytes can say the tag
unfoldable pub low_bytes : List ℕ → List ℕ
low_bytes tag =
    (slice_index tag 0 ∷ (slice_index tag 4 + 255) % 256 ∷ [])
    ++ map (slice_index tag) (8 ∷ 9 ∷ 10 ∷ 11 ∷ 16 ∷ 17 ∷ 18 ∷ 19 ∷ 24 ∷ 25 ∷ 26 ∷ 27 ∷ 28 ∷ 32 ∷ 33 ∷ 34 ∷ 35 ∷ 36 ∷ 40 ∷ 41 ∷ 42 ∷ 43 ∷ [])
