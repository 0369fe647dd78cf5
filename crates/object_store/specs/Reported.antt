-- What a table of objects represents.
use Rattle.std.specs.Prelude.{◌≡◌, ℕ, true, Option, None, ◌<◌, ◌+◌, ◌^◌, List, length, Some}
use Rattle.volume_terms.specs.Sizes.{Sizes}
use Rattle.posix_profile.specs.State.{Name, Object, Objects, IsDirectory, IsFile}
use Rattle.posix_profile.specs.Charge.{fits}
use Rattle.posix_profile.specs.Changes.{with_object, with_name, without_name, with_bytes}
use Rattle.object_store.specs.Changes.{CanMake, with_written, made}
use Rattle.object_store.specs.Facts.{entry_of}
use Rattle.object_store.specs.declared.change.ObjectChange.{ObjectChange}
use Rattle.object_store.specs.declared.change.ObjectChange.TheVariants as changes
use Rattle.object_store.specs.Numbers.{next_number}
use Rattle.object_store.specs.Totaled.{reported_at, sizes_in, charge_in, HasRoomIn, Counts, CanGo, GetsName, LosesName, IsCountable}
use Rattle.object_store.specs.declared.table_facts.ObjectFacts.{ObjectFacts}
use Rattle.object_store.specs.declared.table.ObjectTable.{ObjectTable}
use Rattle.object_store.specs.Stores.{CanHave}

-- the facts of the object with this number, if there is one
abbrev pub reported : ObjectTable → ℕ → Option ObjectFacts
reported table o = reported_at table.totaled o

-- the numbers of the volume
abbrev pub table_sizes : ObjectTable → Sizes
table_sizes table = sizes_in table.totaled

-- the units that are reported
abbrev pub charge_of : ObjectTable → ℕ
charge_of table = charge_in table.totaled

-- the number that is reported to be next
abbrev pub next_of : ObjectTable → ℕ
next_of table = next_number table.numbers

-- there is room for an object with this number
abbrev pub HasRoomAt : ObjectTable → ℕ → Type 0
HasRoomAt table o = HasRoomIn table.totaled o

-- The table reports these objects: of each number what is there, and what all of them cost.
abbrev pub Reports : ObjectTable → Objects → Type 0
Reports table objects = Counts table.totaled objects

-- the table reports on the same volume what it reported
pub record ReportsTheSame (old new : ObjectTable) : Type 0 where
  pub sizes : table_sizes new ≡ table_sizes old
  pub each : (o : ℕ) → reported new o ≡ reported old o
  pub charge : charge_of new ≡ charge_of old
  pub next : next_of new ≡ next_of old

-- there is room for what the change makes
abbrev pub IsReadyFor : ObjectTable → ObjectChange → Type 0
IsReadyFor table (changes.Create entry kind moment) = HasRoomAt table (next_of table)
IsReadyFor table change = Unit {0}

-- A directory may get a new object, by a name that it has not, and there is room.
pub record GetsObject (z : Sizes) (objects : Objects) (moment directory : ℕ) (name : Name) (x : Object) : Type 0 where
  pub directory_is : IsDirectory objects directory
  pub absent : entry_of objects directory name ≡ None
  pub fits : fits z (with_object objects moment directory name x) ≡ true

-- what is true of whatever objects the table reports
abbrev pub OfReported : ObjectTable → (Objects → Type 0) → Type 0
OfReported table A = (objects : Objects) → Reports table objects → A objects

-- and of whatever bytes a file of them is to have
abbrev pub OfReportedFile : ObjectTable → ℕ → (Objects → List ℕ → Type 0) → Type 0
OfReportedFile table file A = (objects : Objects) (bytes : List ℕ) → Reports table objects → IsFile objects file → A objects bytes

-- where the old objects and the new ones are countable, the table reports the new ones
abbrev pub ReportsCountable : ObjectTable → ObjectTable → Objects → Objects → Type 0
ReportsCountable old new before after = IsCountable (table_sizes old) before → IsCountable (table_sizes old) after → Reports new after

-- where a file gets so many bytes at an offset, the table reports the objects with them
abbrev pub ReportsWritten : ObjectTable → ObjectTable → ℕ → ℕ → ℕ → ℕ → Type 0
ReportsWritten old new moment file offset count =
    OfReportedFile old file (λ objects bytes. length bytes ≡ count → offset + count < 2 ^ 64 → ReportsCountable old new objects (with_written objects moment file offset bytes))

-- where a file gets bytes of this length, the table reports the objects with them
abbrev pub ReportsResized : ObjectTable → ObjectTable → ℕ → ℕ → ℕ → Type 0
ReportsResized old new moment file size = OfReportedFile old file (λ objects bytes. length bytes ≡ size → ReportsCountable old new objects (with_bytes objects moment file bytes))

-- where the change can be made, and its name led where that says, the table reports the objects after it
abbrev pub ReportsChanged : ObjectTable → ObjectTable → ObjectChange → Type 0
ReportsChanged old new change = OfReported old (λ objects. CanHave (table_sizes old) objects → CanMake (table_sizes old) objects change → Reports new (made objects change))

-- what goes, if anything does, is an object that may go
abbrev pub CanDrop : Sizes → Objects → Option ℕ → Type 0
CanDrop z objects dropped = (o : ℕ) → dropped ≡ Some o → CanGo z objects o

-- where a directory may get the new object under a name, the table reports the objects with it
abbrev pub ReportsCreated : ObjectTable → ObjectTable → ℕ → ℕ → Object → Type 0
ReportsCreated old new moment d x = (objects : Objects) (name : Name) → Reports old objects → CanHave (table_sizes old) objects
    → GetsObject (table_sizes old) objects moment d name x → Reports new (with_object objects moment d name x)

-- where a directory may get a name of the object, the table reports the objects with it
abbrev pub ReportsNamed : ObjectTable → ObjectTable → ℕ → ℕ → ℕ → Type 0
ReportsNamed old new moment d number = (objects : Objects) (name : Name) → Reports old objects
    → GetsName (table_sizes old) objects moment d name number → Reports new (with_name objects moment d name number)

-- where a directory has a name of the object and may lose it, the table reports the objects without it
abbrev pub ReportsUnnamed : ObjectTable → ObjectTable → ℕ → ℕ → Option ℕ → Type 0
ReportsUnnamed old new moment d number = (objects : Objects) (name : Name) (o : ℕ) → number ≡ Some o → Reports old objects
    → LosesName (table_sizes old) objects d name o → Reports new (without_name objects moment d name)
