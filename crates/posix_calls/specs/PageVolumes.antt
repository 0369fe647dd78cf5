-- What a volume over pages is, and which state it represents.
use Rattle.std.specs.Prelude.{◌≡◌, ◌≤◌, Bool, true, false}
use Rattle.std.specs.FinMap as map
use Rattle.volume_terms.specs.Sizes.{Sizes, IsSizes}
use Rattle.posix_profile.specs.State.{Handles, Objects, State}
use Rattle.posix_profile.specs.laws.Sound.{IsSound}
use Rattle.name_index.specs.declared.index.NameIndex.{NameIndex}
use Rattle.object_commands.specs.Endings.{AreReading}
use Rattle.object_commands.specs.Volumes as volumes
use Rattle.paged_objects.specs.Naming.{HasNames}
use Rattle.object_store.specs.Stores.{settled}
use Rattle.object_store.specs.Reported.{table_sizes, Reports}
use Rattle.object_store.specs.declared.table.ObjectTable.{ObjectTable}
use Rattle.pages.specs.State.{PagesState}
use Rattle.pages.specs.Stores.{bad_on}
use Rattle.paged_objects.specs.Parts as parts
use Rattle.paged_objects.specs.Representing.{PagesRepresent, Shown}
use Rattle.paged_objects.specs.declared.store.PagedObjects.{PagedObjects}
use Rattle.posix_calls.specs.declared.page_volume.PageVolume.{PageVolume}

-- its pages
abbrev pub pages_of : {P : Type 0} → PageVolume P → P
pages_of v = parts.pages_of (volumes.store_of v.volume)

-- the table of its objects
abbrev pub table_of : {P : Type 0} → PageVolume P → ObjectTable
table_of v = parts.table_of (volumes.store_of v.volume)

-- the index of the names of its objects
abbrev pub names_of : {P : Type 0} → PageVolume P → NameIndex
names_of v = parts.names_of (volumes.store_of v.volume)

-- what its descriptors refer to
abbrev pub handles_of : {P : Type 0} → PageVolume P → Handles
handles_of v = volumes.handles_of v.volume

-- commands that would change it are refused
abbrev pub is_read_only : {P : Type 0} → PageVolume P → Bool
is_read_only v = volumes.is_read_only v.volume

-- it answers EIO to each command
abbrev pub is_stopped : {P : Type 0} → PageVolume P → Bool
is_stopped v = volumes.is_stopped v.volume

-- The volume represents a state: its sound pages hold the objects, its table reports them, its index has the hashes of their names, and
-- its descriptors are those of the state, which is one that a volume of these sizes can have. Of a read-only volume no descriptor may write, each object has
-- a name, and a mount shows the objects; of another no more blocks are bad than there are to spare.
pub record IsVolumeOf {P : Type 0} (state : P → PagesState) (z : Sizes) (s : State) (v : PageVolume P) : Type 0 where
  pub numbers : IsSizes z
  pub sizes : table_sizes (table_of v) ≡ z
  pub represents : PagesRepresent z (state (pages_of v)) s.objects
  pub reports : Reports (table_of v) s.objects
  pub hashes : HasNames (names_of v) z (state (pages_of v)).present s.objects
  pub handles : volumes.handles_of v.volume ≡ s.handles
  pub sound : IsSound z s
  pub worn : (state (pages_of v)).worn ≡ is_read_only v
  pub within_limit : is_read_only v ≡ false → bad_on (state (pages_of v)).device ≤ (state (pages_of v)).spare
  pub reading : is_read_only v ≡ true → AreReading s.handles
  pub named : is_read_only v ≡ true → settled s.objects ≡ s.objects
  pub shown : is_read_only v ≡ true → Shown z (state (pages_of v)) s.objects

-- A store of objects in pages has these objects: its sound pages and its table hold them, its index has the hashes of their
-- names, and a volume of its sizes can have them.
pub record IsStored {P : Type 0} (state : P → PagesState) (o : PagedObjects P) (objects : Objects) : Type 0 where
  pub numbers : IsSizes (table_sizes (parts.table_of o))
  pub represents : PagesRepresent (table_sizes (parts.table_of o)) (state (parts.pages_of o)) objects
  pub reports : Reports (parts.table_of o) objects
  pub hashes : HasNames (parts.names_of o) (table_sizes (parts.table_of o)) (state (parts.pages_of o)).present objects
  pub sound : IsSound (table_sizes (parts.table_of o)) (record { objects = objects; handles = map.empty })

-- Each of these objects of a store has a name, and a mount shows them.
pub record IsShownBy {P : Type 0} (state : P → PagesState) (o : PagedObjects P) (objects : Objects) : Type 0 where
  pub named : settled objects ≡ objects
  pub shown : Shown (table_sizes (parts.table_of o)) (state (parts.pages_of o)) objects

-- These are the objects of a store whose volume is read-only or not, by whether its device is worn out: of a read-only one each has a name,
-- and a mount shows them.
pub record IsStoredAs {P : Type 0} (state : P → PagesState) (o : PagedObjects P) (read_only : Bool) (objects : Objects) : Type 0 where
  pub stored : IsStored state o objects
  pub worn : (state (parts.pages_of o)).worn ≡ read_only
  pub shown : read_only ≡ true → IsShownBy state o objects
