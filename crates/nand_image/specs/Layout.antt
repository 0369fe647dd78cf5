-- Where what of a flash is in its image: a head, a mark for each block, and then the pages, block by block.
use Rattle.std.specs.Prelude.{ℕ, ◌+◌, ◌*◌}
use Rattle.nand_model.specs.declared.geometry.Geometry.{Geometry}

-- the bytes of a page: its kind, 48 bytes of tag, its data
abbrev pub slot_size : Geometry → ℕ
slot_size g = 49 + g.bytes

-- the pages begin after the head and a byte for each block
abbrev pub pages_place : Geometry → ℕ
pages_place g = 32 + g.blocks

-- where a page begins, with its kind
abbrev pub page_place : Geometry → ℕ → ℕ → ℕ
page_place g b p = pages_place g + (b * g.pages + p) * slot_size g

-- where the mark of a block stands
abbrev pub mark_place : ℕ → ℕ
mark_place b = 32 + b

-- the bytes of an image
abbrev pub image_size : Geometry → ℕ
image_size g = pages_place g + g.blocks * g.pages * slot_size g
