-- The paths that are noted while items are read.
use Rattle.std.specs.Prelude.{◌≡◌, ℕ, List, Option, option_map}
use Rattle.std.specs.Ordering.{nat_cmp}
use Rattle.std.specs.BTreeMap.{get}
use Rattle.plain_volume.specs.Items.{Item}
use Rattle.image_tools.specs.Folders.{first_path}
use Rattle.image_tools.specs.declared.unpacking.FirstNames.{FirstNames}

-- the path that is noted for an object
abbrev pub path_noted : FirstNames → ℕ → Option (List ℕ)
path_noted names number = option_map (λ path. path.items) (get nat_cmp names.paths number)

-- for each object the path of the first of the items that is of it is noted
abbrev pub Knows : FirstNames → List Item → Type 0
Knows names items = (number : ℕ) → path_noted names number ≡ first_path items number
