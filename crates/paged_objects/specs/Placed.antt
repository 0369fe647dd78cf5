-- Objects in the pages of a store, and what holds where a store has them.
use Rattle.std.specs.Prelude.{◌≡◌, ℕ, List, length}
use Rattle.std.specs.FinMap as map
use Rattle.name_index.specs.declared.index.NameIndex.{NameIndex}
use Rattle.volume_terms.specs.Sizes.{Sizes}
use Rattle.posix_profile.specs.State.{Objects, IsDirectory, IsFile}
use Rattle.object_store.specs.Changes.{LeadsTo}
use Rattle.object_store.specs.Facts.{bytes_of}
use Rattle.object_store.specs.Stores.{CanHave}
use Rattle.object_store.specs.Reported.{Reports}
use Rattle.object_store.specs.declared.change.DirectoryEntry.{DirectoryEntry}
use Rattle.object_store.specs.declared.table.ObjectTable.{ObjectTable}
use Rattle.pages.specs.State.{PagesState}
use Rattle.paged_objects.specs.Holding.{HoldsIn}
use Rattle.paged_objects.specs.Known.{HasNamed}
use Rattle.paged_objects.specs.Naming.{HoldsNamed}

-- the pages of a store, the sizes of a volume, and objects that the store is to hold
pub record PlacedObjects : Type 0 where
  pub pages : PagesState
  pub sizes : Sizes
  pub objects : Objects

-- objects in a store, by the parts
abbrev pub placed : PagesState → Sizes → Objects → PlacedObjects
placed p z objects = record { pages = p; sizes = z; objects = objects }

-- the volume can have the objects
abbrev pub AreAllowed : PlacedObjects → Type 0
AreAllowed a = CanHave a.sizes a.objects

-- this holds of the objects that a sound store holds
abbrev pub OfHeld : PagesState → (PlacedObjects → Type 0) → Type 0
OfHeld p A = (z : Sizes) (objects : Objects) → HoldsIn p z objects → A (placed p z objects)

-- this holds of the objects that a sound store holds, where the index has the hashes of all their names
abbrev pub OfNamed : NameIndex → PagesState → (PlacedObjects → Type 0) → Type 0
OfNamed names p A = (z : Sizes) (objects : Objects) → HoldsNamed names p z objects → A (placed p z objects)

-- this holds where, besides, the name of the entry leads to an object
abbrev pub OfLed : NameIndex → PagesState → DirectoryEntry → (PlacedObjects → Type 0) → Type 0
OfLed names p entry A = (z : Sizes) (objects : Objects) (o : ℕ) → HoldsNamed names p z objects → LeadsTo objects entry o → A (placed p z objects)

-- this holds of objects that the volume can have and the store represents, where the index has the hashes of all their names
abbrev pub OfStored : NameIndex → PagesState → (PlacedObjects → Type 0) → Type 0
OfStored names p A = (z : Sizes) (objects : Objects) → HasNamed names z p objects → A (placed p z objects)

-- this holds where, besides, the table reports the objects
abbrev pub OfReported : NameIndex → ObjectTable → PagesState → (PlacedObjects → Type 0) → Type 0
OfReported names table p A = (z : Sizes) (objects : Objects) → HasNamed names z p objects → Reports table objects → A (placed p z objects)

-- the bytes of a file of the objects
abbrev pub bytes_in : PlacedObjects → ℕ → List ℕ
bytes_in a file = bytes_of (map.get a.objects file)

-- this holds if the object is a directory with so many entries
abbrev pub IfCounted : PlacedObjects → ℕ → ℕ → Type 0 → Type 0
IfCounted a directory count A = (dir : IsDirectory a.objects directory) → count ≡ map.len dir.1 → A

-- this holds if the object is a file of so many bytes
abbrev pub IfLong : PlacedObjects → ℕ → ℕ → Type 0 → Type 0
IfLong a file len A = IsFile a.objects file → len ≡ length (bytes_in a file) → A
