-- Which names lead to an object, and which objects a state keeps.
-- From: POSIX: directory entry, dot-dot, link count, and when an unlinked file is freed (`unlink()`, `close()`).
use Rattle.std.specs.Prelude.{◌≡◌, ℕ, ◌+◌, Bool, false, ◌||◌, List, [], length, map as list_map, filter, count_by, Some, nat_eq}
use Rattle.std.specs.List.{list_any, find, flat_map}
use Rattle.std.specs.Option.{option_map_or}
use Rattle.std.specs.FinMap as map
use Rattle.volume_terms.specs.Sizes.{root_number}
use Rattle.posix_profile.specs.State.{Name, Entries, Object, File, Dir, Objects, State, is_directory}

-- the directory has an entry of this name, which leads to the object
pub record Names (objects : Objects) (directory : ℕ) (name : Name) (object : ℕ) : Type 0 where
  pub moment : ℕ
  pub entries : Entries
  pub directory_is : map.get objects directory ≡ Some (Dir moment entries)
  pub object_is : map.get entries name ≡ Some object

-- the object is the root, or a directory that is reached names it
pub data Reached (objects : Objects) : ℕ → Type 0 where
  root : Reached objects root_number
  below : {directory object : ℕ} (name : Name) → Reached objects directory → Names objects directory name object → Reached objects object

-- the second object is the first, or lies below it
pub data Below (objects : Objects) (top : ℕ) : ℕ → Type 0 where
  self : Below objects top top
  next : {directory object : ℕ} (name : Name) → Below objects top directory → Names objects directory name object → Below objects top object

-- whether the object is a directory that names the number
abbrev pub has_entry_to : ℕ → Object → Bool
has_entry_to o (File moment bytes) = false
has_entry_to o (Dir moment entries) = list_any (nat_eq o) (map.values entries)

-- the directory that names the object; and the root for one that none names, as for the root itself
abbrev pub parent : Objects → ℕ → ℕ
parent objects o = option_map_or (λ e. e.0) (find (λ e. has_entry_to o e.1) (map.entries objects)) root_number

-- the names of an object that lead to the number
abbrev pub names_to : ℕ → Object → List Name
names_to o (File moment bytes) = []
names_to o (Dir moment entries) = list_map (λ e. e.0) (filter (λ e. nat_eq o e.1) (map.entries entries))

-- all pairs of a directory and a name in it that lead to the object
abbrev pub link_pairs : Objects → ℕ → List (ℕ × Name)
link_pairs objects o = flat_map (λ e. list_map (λ name. (e.0, name)) (names_to o e.1)) (map.entries objects)

-- the links of an object: of a file the names that lead to it, of a directory 2 and the subdirectories that it names
abbrev pub links : Objects → ℕ → Object → ℕ
links objects o (File moment bytes) = length (link_pairs objects o)
links objects o (Dir moment entries) = 2 + count_by (λ child. is_directory (map.get objects child)) (map.values entries)

-- whether some directory names the object
abbrev pub is_named : Objects → ℕ → Bool
is_named objects o = list_any (has_entry_to o) (map.values objects)

-- whether some descriptor refers to the object
abbrev pub is_open : State → ℕ → Bool
is_open s o = list_any (λ h. nat_eq o h.object) (map.values s.handles)

-- the state without each object that is not the root, that no directory names and that no descriptor refers to
abbrev pub prune : State → State
prune s = record s { objects = map.retain_keys s.objects (λ o. nat_eq o root_number || is_named s.objects o || is_open s o) }

-- what a mount shows of a state: no descriptors, and what is then left
abbrev pub settle : State → State
settle s = prune (record s { handles = map.empty })
