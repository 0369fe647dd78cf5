-- Trees of files, as lists of entries.
use Rattle.std.specs.Prelude.{◌≡◌, ℕ, ◌++◌, List, [], ◌∷◌, map as list_map, Option, Some, None, option_map, nat_eq}
use Rattle.std.specs.List.{find}
use Rattle.posix_profile.specs.State.{Name, Objects}
use Rattle.plain_volume.specs.Items.{Reported, OfFile, OfDirectory, Item, AreRead, root_path}
use Rattle.image_tools.specs.declared.folder.Folder.{Folder}
use Rattle.image_tools.specs.declared.folder.FolderEntry.{FolderEntry}
use Rattle.image_tools.specs.declared.folder.Node.{Node}
use Rattle.image_tools.specs.declared.folder.Node.TheVariants as nodes

-- the bytes of a file, the names in a directory, or the earlier path that leads to the same file
pub data Held : Type 0 where
  FileOf : (bytes : List ℕ) → Held
  DirectoryOf : (names : List Name) → Held
  LinkTo : (path : List ℕ) → Held

-- a path, the moment of its object's last change, and what it leads to
pub record Entry : Type 0 where
  pub path : List ℕ
  pub moment : ℕ
  pub held : Held

-- what a node holds
abbrev pub held_of : Node → Held
held_of (nodes.File bytes) = FileOf bytes.items
held_of (nodes.Directory names) = DirectoryOf names.items
held_of (nodes.Link path) = LinkTo path.items

-- an entry as clauses see it
abbrev pub entry_of : FolderEntry → Entry
entry_of entry = record { path = entry.path.items; moment = entry.moment; held = held_of entry.node }

-- the entries of a folder
abbrev pub entries_of : Folder → List Entry
entries_of folder = list_map entry_of folder.entries.items

-- the path of the first of the items that is of this object
abbrev pub first_path : List Item → ℕ → Option (List ℕ)
first_path items number = option_map (λ item. item.path) (find (λ item. nat_eq item.info.object number) items)

-- what an entry holds, by what its object holds: a file with an earlier path is a further name of it
abbrev pub held_by : Reported → Option (List ℕ) → Held
held_by (OfFile bytes) None = FileOf bytes
held_by (OfFile bytes) (Some path) = LinkTo path
held_by (OfDirectory names) first = DirectoryOf names

-- the entry of an item that comes after these
abbrev pub entry_after : List Item → Item → Entry
entry_after earlier item = record { path = item.path; moment = item.info.moment; held = held_by item.reported (first_path earlier item.info.object) }

-- the entries of items that come after these, in turn
abbrev pub entries_after : List Item → List Item → List Entry
entries_after earlier [] = []
entries_after earlier (item ∷ items) = entry_after earlier item ∷ entries_after (earlier ++ item ∷ []) items

-- The objects are these entries: what their paths lead to, read from the root on, is each entry's moment and bytes or names; and an
-- entry is a link exactly where an earlier path leads to the same file, and then to the first of these.
pub record IsFolder (objects : Objects) (entries : List Entry) : Type 0 where
  pub items : List Item
  pub read : AreRead objects (root_path ∷ []) items
  pub are : entries ≡ entries_after [] items
