-- A tree map from names to numbers, seen as the entries of a directory.
use Rattle.std.specs.Prelude.{ℕ, map as list_map}
use Rattle.std.specs.Global.{Vec}
use Rattle.std.specs.declared.cmp.Ordering.{Ordering}
use Rattle.std.specs.Ordering.{nat_cmp}
use Rattle.std.specs.Cmp.Lexicographic.{slice_cmp}
use Rattle.std.specs.BTreeMap.{BTreeMap}
use Rattle.std.specs.FinMap as map
use Rattle.posix_profile.specs.State.{Entries}

-- the entries by their names
abbrev pub entries_in : BTreeMap (Vec ℕ) ℕ → Entries
entries_in m = map.from_entries (list_map (λ e. (e.0.items, e.1)) m.entries)

-- the order of the names' bytes
abbrev pub name_cmp : Vec ℕ → Vec ℕ → Ordering
name_cmp a b = slice_cmp nat_cmp a.items b.items
