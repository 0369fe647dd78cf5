-- The tag of a page.
use Rattle.std.specs.Prelude.{◌<◌, ◌≤◌, ℕ, ◌^◌, List, ◌++◌, drop}
use Rattle.byteorder.specs.Endian.{little_bytes, little_number}
use Rattle.page_tags.specs.declared.tag.Tag.{Tag}

-- the 48 bytes of a tag
unfoldable pub tag_bytes : Tag → List ℕ
tag_bytes t =
    little_bytes 4 t.index ++ little_bytes 4 t.count ++ little_bytes 8 t.object ++ little_bytes 8 t.chunk
    ++ little_bytes 8 t.version ++ little_bytes 8 t.group ++ little_bytes 8 t.seq

-- what the bytes say, if they are a tag
abbrev pub tag_in : List ℕ → Tag
tag_in bytes = record {
  index = little_number 4 bytes;
  count = little_number 4 (drop 4 bytes);
  object = little_number 8 (drop 8 bytes);
  chunk = little_number 8 (drop 16 bytes);
  version = little_number 8 (drop 24 bytes);
  group = little_number 8 (drop 32 bytes);
  seq = little_number 8 (drop 40 bytes);
}

-- what a tag may say
pub record IsTag (t : Tag) : Type 0 where
  pub count : (1 ≤ t.count) × (t.count ≤ 256)
  pub index : t.index < t.count
  pub object : (1 ≤ t.object) × (t.object < 2 ^ 64)
  pub chunk : t.chunk < 2 ^ 64
  pub version : (1 ≤ t.version) × (t.version ≤ t.group)
  pub group : t.group < 2 ^ 64
  pub seq : (1 ≤ t.seq) × (t.seq < 2 ^ 64)
