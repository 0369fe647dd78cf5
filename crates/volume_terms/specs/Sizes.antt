-- The numbers of a volume.
-- From: this project; NAME_MAX, PATH_MAX, OPEN_MAX and the offset maximum of POSIX.
use Rattle.std.specs.Prelude.{◌≡◌, ◌⊎◌, ◌≤◌, ℕ, ◌+◌, ◌-◌, ◌*◌, ◌/◌, ◌^◌}

-- what a volume is made with: the data bytes of a page, the pages of a block, the blocks, and of these the spare ones
pub record Sizes : Type 0 where
  pub page_bytes : ℕ
  pub block_pages : ℕ
  pub blocks : ℕ
  pub spare_blocks : ℕ

-- most pages in the buffer and in a committed group
abbrev pub buffer_pages : Sizes → ℕ
buffer_pages z = z.block_pages / 4

-- most bytes that one Write writes
abbrev pub most_written : Sizes → ℕ
most_written z = (buffer_pages z - 3) * z.page_bytes

-- the bytes of an entry of a directory in its page
abbrev pub slot_length : ℕ
slot_length = 272

-- entries of a directory in one page
abbrev pub page_slots : Sizes → ℕ
page_slots z = z.page_bytes / slot_length

-- the units of a page's bytes that a state may cost
abbrev pub capacity : Sizes → ℕ
capacity z = (z.blocks - z.spare_blocks - 1) * (z.block_pages - buffer_pages z)

-- most bytes of a file over pages of d bytes: each byte of a header past the first 32 has the presence bits of eight pages
abbrev pub most_file_bytes : ℕ → ℕ
most_file_bytes d = 8 * (d - 32) * d

-- most bytes of a file
abbrev pub greatest_length : Sizes → ℕ
greatest_length z = most_file_bytes z.page_bytes

-- most bytes of a name
abbrev pub name_limit : ℕ
name_limit = 255

-- most bytes of a path
abbrev pub path_limit : ℕ
path_limit = 4095

-- how many descriptors there are, from 0 up
abbrev pub descriptors : ℕ
descriptors = 64

-- the greatest offset
abbrev pub offset_limit : ℕ
offset_limit = 2 ^ 63 - 1

-- the number of the root directory
abbrev pub root_number : ℕ
root_number = 1

-- the sizes that a volume can have
pub record IsSizes (z : Sizes) : Type 0 where
  pub page_bytes : (z.page_bytes ≡ 512) ⊎ (z.page_bytes ≡ 1024) ⊎ (z.page_bytes ≡ 2048) ⊎ (z.page_bytes ≡ 4096)
  pub block_pages : (z.block_pages ≡ 32) ⊎ (z.block_pages ≡ 64) ⊎ (z.block_pages ≡ 128) ⊎ (z.block_pages ≡ 256)
  pub some_blocks : 5 ≤ z.blocks
  pub few_blocks : z.blocks ≤ 4096
  pub spare_blocks : z.spare_blocks + 4 ≤ z.blocks

-- numbers of groups and of a block's openings are handed out below this one
abbrev pub number_end : ℕ
number_end = 2 ^ 62

-- the greatest number that is handed out
abbrev pub number_limit : ℕ
number_limit = number_end - 1
