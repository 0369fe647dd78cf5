-- What a state costs, in units of a page's bytes.
-- From: this project.
use Rattle.std.specs.Prelude.{ℕ, ◌+◌, Bool, length, sum_by, nat_le}
use Rattle.std.specs.FinMap as map
use Rattle.volume_terms.specs.Sizes.{Sizes, page_slots, capacity}
use Rattle.volume_terms.specs.Rounding.{ceiling}
use Rattle.posix_profile.specs.State.{Object, File, Dir, Objects}

-- a file costs one unit and one for each page of its length, a directory one and one for each page of its entries
abbrev pub cost : Sizes → Object → ℕ
cost z (File moment bytes) = 1 + ceiling (length bytes) z.page_bytes
cost z (Dir moment entries) = 1 + ceiling (map.len entries) (page_slots z)

-- the sum over all objects
abbrev pub charge : Sizes → Objects → ℕ
charge z objects = sum_by (cost z) (map.values objects)

-- whether there is room for these objects
abbrev pub fits : Sizes → Objects → Bool
fits z objects = nat_le (charge z objects) (capacity z)
