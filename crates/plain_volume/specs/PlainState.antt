-- What maps and vectors represent.
-- From: this project.
use Rattle.std.specs.Prelude.{ℕ, map as list_map}
use Rattle.std.specs.FinMap as map
use Rattle.std.specs.BTreeMap.{BTreeMap}
use Rattle.posix_profile.specs.State.{Object, File, Dir, Objects}
use Rattle.name_map.specs.NameEntries.{entries_in}
use Rattle.plain_volume.specs.declared.state.object.PlainObject.{PlainObject}
use Rattle.plain_volume.specs.declared.state.object.PlainObject.TheVariants as plain

-- a file with its bytes, or a directory with its entries
abbrev pub object_of : PlainObject → Object
object_of (plain.File moment bytes) = File moment bytes.items
object_of (plain.Directory moment entries) = Dir moment (entries_in entries)

-- the objects by their numbers
abbrev pub objects_in : BTreeMap ℕ PlainObject → Objects
objects_in m = map.from_entries (list_map (λ e. (e.0, object_of e.1)) m.entries)
