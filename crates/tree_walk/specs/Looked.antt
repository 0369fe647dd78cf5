-- The pages that a mount looks up to see a tree.
-- From: this project.
use Rattle.std.specs.Prelude.{ℕ, ◌+◌, sum_by}
use Rattle.std.specs.FinMap as map
use Rattle.volume_terms.specs.Sizes.{Sizes, page_slots}
use Rattle.volume_terms.specs.Rounding.{ceiling}
use Rattle.posix_profile.specs.State.{Object, File, Dir, Objects}

-- of an object: its header, and of a directory the pages that its entries fill
abbrev pub looked : Sizes → Object → ℕ
looked z (File moment bytes) = 1
looked z (Dir moment entries) = 1 + ceiling (map.len entries) (page_slots z)

-- the sum over all objects
abbrev pub looked_pages : Sizes → Objects → ℕ
looked_pages z objects = sum_by (looked z) (map.values objects)
