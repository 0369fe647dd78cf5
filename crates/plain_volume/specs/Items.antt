-- What is read of a tree by commands.
use Rattle.std.specs.Prelude.{◌≡◌, ℕ, ◌++◌, List, [], ◌∷◌, map as list_map, Some, Ok, nat_eq, if◌then◌else◌}
use Rattle.std.specs.Cmp.Lexicographic.{pointwise}
use Rattle.std.specs.FinMap as map
use Rattle.posix_profile.specs.NameSteps.{info}
use Rattle.posix_profile.specs.Paths.{Place, resolve}
use Rattle.posix_profile.specs.State.{Name, Entries, Object, File, Dir, Objects}
use Rattle.posix_profile.specs.declared.reply.Info.{Info}
use Rattle.plain_volume.specs.declared.reading.Content.{Content}
use Rattle.plain_volume.specs.declared.reading.Content.TheVariants as contents
use Rattle.plain_volume.specs.declared.reading.TreeEntry.{TreeEntry}
use Rattle.plain_volume.specs.declared.reading.TreeName.{TreeName}

-- the bytes of a file, or the names in a directory
pub data Reported : Type 0 where
  OfFile : (bytes : List ℕ) → Reported
  OfDirectory : (names : List Name) → Reported

-- a path, and what is reported of its object
pub record Item : Type 0 where
  pub path : List ℕ
  pub info : Info
  pub reported : Reported

-- what a content reports
abbrev pub reported_of : Content → Reported
reported_of (contents.File bytes) = OfFile bytes.items
reported_of (contents.Directory names) = OfDirectory names.items

-- an entry as an item
abbrev pub item_of : TreeEntry → Item
item_of entry = record { path = entry.name.path.items; info = entry.info; reported = reported_of entry.content }

-- what an object reports
abbrev pub content_of : Object → Reported
content_of (File moment bytes) = OfFile bytes
content_of (Dir moment entries) = OfDirectory (map.keys entries)

-- the path of the root
abbrev pub root_path : List ℕ
root_path = 47 ∷ []

-- the path of a name in a directory
abbrev pub path_below : List ℕ → Name → List ℕ
path_below directory name = (if pointwise nat_eq directory root_path then [] else directory) ++ 47 ∷ name

-- the paths of what is reported of it
abbrev pub paths_below : List ℕ → Reported → List (List ℕ)
paths_below path (OfFile bytes) = []
paths_below path (OfDirectory names) = list_map (path_below path) names

-- the paths of names
abbrev pub paths_of : List TreeName → List (List ℕ)
paths_of names = list_map (λ (name : TreeName). name.path.items) names

-- the path leads to the object of this number
pub record IsFound (objects : Objects) (path : List ℕ) (number : ℕ) (object : Object) : Type 0 where
  pub place : Place
  pub leads : resolve objects path ≡ Ok place
  pub object_is : place.object ≡ Some number
  pub there : map.get objects number ≡ Some object

-- it is what is reported of an object to which the path leads
abbrev pub IsInfo : Objects → List ℕ → Info → Type 0
IsInfo objects path reported = (number : ℕ) × (object : Object) × IsFound objects path number object × (reported ≡ info objects number object)

-- they are the names of a directory to which the path leads
abbrev pub AreNames : Objects → List ℕ → List Name → Type 0
AreNames objects path names = (number : ℕ) × (moment : ℕ) × (entries : Entries) × IsFound objects path number (Dir moment entries) × (names ≡ map.keys entries)

-- they are the bytes of a file to which the path leads
abbrev pub AreBytesAt : Objects → List ℕ → List ℕ → Type 0
AreBytesAt objects path bytes = (number : ℕ) × (moment : ℕ) × IsFound objects path number (File moment bytes)

-- it is reported of what an object holds to which the path leads
abbrev pub IsContent : Objects → List ℕ → Reported → Type 0
IsContent objects path reported = (number : ℕ) × (object : Object) × IsFound objects path number object × (reported ≡ content_of object)

-- the item is reported of the object to which its path leads
pub record IsRead (objects : Objects) (item : Item) : Type 0 where
  pub number : ℕ
  pub object : Object
  pub found : IsFound objects item.path number object
  pub info_is : item.info ≡ info objects number object
  pub reported_is : item.reported ≡ content_of object

-- the items are read of these paths in turn, and then of the paths that they name
abbrev pub AreRead : Objects → List (List ℕ) → List Item → Type 0
AreRead objects [] [] = Unit {0}
AreRead objects [] (item ∷ items) = ⊥
AreRead objects (path ∷ paths) [] = ⊥
AreRead objects (path ∷ paths) (item ∷ items) = (item.path ≡ path) × IsRead objects item × AreRead objects (paths ++ paths_below item.path item.reported) items
