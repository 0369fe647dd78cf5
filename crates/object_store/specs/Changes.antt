-- How a store is changed.
use Rattle.std.specs.Prelude.{◌≡◌, ◌≢◌, ◌⊎◌, ◌≤◌, ℕ, ◌+◌, Bool, true, false, List, [], length, Option, Some, None}
use Rattle.std.specs.FinMap as map
use Rattle.volume_terms.specs.Sizes.{Sizes, greatest_length, most_written, root_number}
use Rattle.posix_profile.specs.State.{Name, Object, File, Dir, Objects, IsFile, IsDirectory}
use Rattle.posix_profile.specs.Names.{Names}
use Rattle.posix_profile.specs.Charge.{fits}
use Rattle.posix_profile.specs.Changes.{with_object, with_name, without_name, with_bytes, written, resized}
use Rattle.posix_profile.specs.WellFormed.{IsNamed}
use Rattle.volume_terms.specs.Names.{IsName}
use Rattle.posix_profile.specs.declared.reply.Kind.{Kind}
use Rattle.posix_profile.specs.declared.reply.Kind.TheVariants as kinds
use Rattle.object_store.specs.Facts.{entry_of, bytes_of}
use Rattle.object_store.specs.declared.change.DirectoryEntry.{DirectoryEntry}
use Rattle.object_store.specs.declared.change.ObjectChange.{ObjectChange}
use Rattle.object_store.specs.declared.change.ObjectChange.TheVariants as changes

-- a new object
abbrev pub empty_object : Kind → ℕ → Object
empty_object kinds.File moment = File moment []
empty_object kinds.Directory moment = Dir moment map.empty

-- the objects without the one that is reported, if one is
abbrev pub without : Option ℕ → Objects → Objects
without None objects = objects
without (Some o) objects = map.remove objects o

-- the objects after these bytes are written to a file, from an offset on
abbrev pub with_written : Objects → ℕ → ℕ → ℕ → List ℕ → Objects
with_written objects moment file offset bytes = with_bytes objects moment file (written (bytes_of (map.get objects file)) offset bytes)

-- the objects after a file gets this length
abbrev pub with_length : Objects → ℕ → ℕ → ℕ → Objects
with_length objects moment file length = with_bytes objects moment file (resized (bytes_of (map.get objects file)) length)

-- the objects after a name of the object goes, and another one comes
abbrev pub with_moved : Objects → ℕ → DirectoryEntry → DirectoryEntry → ℕ → Objects
with_moved objects moment from to number = with_name (without_name objects moment from.directory from.name.now) moment to.directory to.name.now number

-- the objects after a change
abbrev pub made : Objects → ObjectChange → Objects
made objects (changes.Create entry kind moment) = with_object objects moment entry.directory entry.name.now (empty_object kind moment)
made objects (changes.Name entry number moment) = with_name objects moment entry.directory entry.name.now number
made objects (changes.Remove entry removed dropped moment) = without dropped (without_name objects moment entry.directory entry.name.now)
made objects (changes.Move from to number replaced dropped moment) = without dropped (with_moved objects moment from to number)
made objects (changes.Write number offset bytes moment) = with_written objects moment number offset bytes.now
made objects (changes.Resize number length moment) = with_length objects moment number length
made objects (changes.Forget number) = map.remove objects number

-- the directory has not the name
pub record IsAbsent (objects : Objects) (entry : DirectoryEntry) : Type 0 where
  pub directory : IsDirectory objects entry.directory
  pub name : IsName entry.name.now
  pub absent : entry_of objects entry.directory entry.name.now ≡ None

-- the name leads to the object
abbrev pub LeadsTo : Objects → DirectoryEntry → ℕ → Type 0
LeadsTo objects entry o = Names objects entry.directory entry.name.now o

-- the object moves to an absent name, or to one that leads to another object, which may go
abbrev pub IsTarget : Objects → DirectoryEntry → ℕ → Option ℕ → Type 0
IsTarget objects entry o dropped =
    (IsAbsent objects entry × (dropped ≡ None))
    ⊎ ((there : ℕ) × LeadsTo objects entry there × (there ≢ o) × ((dropped ≡ None) ⊎ (dropped ≡ Some there)))

-- what is known of a change where it is made
abbrev pub IsSensible : Sizes → Objects → ObjectChange → Type 0
IsSensible z objects (changes.Create entry kind moment) = IsAbsent objects entry
IsSensible z objects (changes.Name entry number moment) = IsAbsent objects entry × IsFile objects number
IsSensible z objects (changes.Remove entry removed dropped moment) = (o : ℕ) × LeadsTo objects entry o × ((dropped ≡ None) ⊎ (dropped ≡ Some o))
IsSensible z objects (changes.Move from to number replaced dropped moment) = LeadsTo objects from number × IsTarget objects to number dropped
IsSensible z objects (changes.Write number offset bytes moment) = IsFile objects number × (offset + length bytes.now ≤ greatest_length z) × (length bytes.now ≤ most_written z)
IsSensible z objects (changes.Resize number length moment) = IsFile objects number × (length ≤ greatest_length z)
IsSensible z objects (changes.Forget number) = (number ≢ root_number) × (IsNamed objects number → ⊥) × ((object : Object) × (map.get objects number ≡ Some object))

-- the object that the change takes a name from, or gives another one's name, is what the name leads to
abbrev pub TakesFrom : Objects → ObjectChange → Type 0
TakesFrom objects (changes.Remove entry removed dropped moment) = Some removed ≡ entry_of objects entry.directory entry.name.now
TakesFrom objects (changes.Move from to number replaced dropped moment) = replaced ≡ entry_of objects to.directory to.name.now
TakesFrom objects change = Unit {0}

-- the object that goes with a change, if one does
abbrev pub dropped_by : ObjectChange → Option ℕ
dropped_by (changes.Remove entry removed dropped moment) = dropped
dropped_by (changes.Move from to number replaced dropped moment) = dropped
dropped_by (changes.Forget number) = Some number
dropped_by change = None

-- no name leads from the object: it is no directory, or one without entries
abbrev pub NamesNothing : Objects → ℕ → Type 0
NamesNothing objects o = (child : ℕ) (name : Name) → Names objects o name child → ⊥

-- a change that can be made: it is sensible, it says what it takes a name from, what goes has no entries, and there is room
pub record CanMake (z : Sizes) (objects : Objects) (change : ObjectChange) : Type 0 where
  pub sensible : IsSensible z objects change
  pub takes : TakesFrom objects change
  pub empty : (o : ℕ) → dropped_by change ≡ Some o → NamesNothing objects o
  pub fits : fits z (made objects change) ≡ true

-- whether a change takes no memory
abbrev pub takes_none : ObjectChange → Bool
takes_none (changes.Forget number) = true
takes_none change = false
