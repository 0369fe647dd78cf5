-- The bytes of a new image.
use Rattle.std.specs.Prelude.{ℕ, ◌+◌, ◌*◌, List, ◌++◌, replicate}
use Rattle.byteorder.specs.Endian.{little_bytes}
use Rattle.nand_model.specs.declared.geometry.Geometry.{Geometry}
use Rattle.nand_image.specs.Layout.{slot_size}
use Rattle.nand_image.specs.Images.{magic}

-- the head: the sizes after the magic, and zeros
unfoldable pub head_bytes : Geometry → List ℕ
head_bytes g = magic ++ little_bytes 4 g.bytes ++ little_bytes 4 g.pages ++ little_bytes 4 g.blocks ++ replicate 12 0

-- An image without a mark and with erased pages: zeros follow the head.
abbrev pub new_image : Geometry → List ℕ
new_image g = head_bytes g ++ replicate (g.blocks + g.blocks * g.pages * slot_size g) 0
