-- The hashes of the names of objects.
use Rattle.std.specs.Prelude.{◌≡◌, ℕ, Some}
use Rattle.std.specs.FinMap as map
use Rattle.name_index.specs.Covering.{HasHashes}
use Rattle.name_index.specs.declared.index.NameIndex.{NameIndex}
use Rattle.pages.specs.Maps.{PageMap}
use Rattle.posix_profile.specs.State.{Entries, Dir, Objects}
use Rattle.volume_terms.specs.Sizes.{Sizes}

-- of each directory of the objects the index has the hash of the name in each of its slots, of which there are as many as entries
abbrev pub CoversObjects : NameIndex → Sizes → PageMap → Objects → Type 0
CoversObjects index z m objects = (o moment : ℕ) (entries : Entries) → map.get objects o ≡ Some (Dir moment entries) → HasHashes index z m o (map.len entries)
