-- Pages and names of objects that a change makes.
use Rattle.std.specs.Prelude.{◌≡◌, ◌≢◌, ◌≤◌, ℕ, Bool, true, false, List, Option, Some, None, Result, IfSome, IsErrOf, length}
use Rattle.std.specs.FinMap as map
use Rattle.page_tags.specs.declared.slot.Slot.{Slot}
use Rattle.name_index.specs.Hashes.{fnv1a}
use Rattle.name_index.specs.declared.index.NameIndex.{NameIndex}
use Rattle.flash_tree.specs.Slots.{IsSlotNumber}
use Rattle.volume_terms.specs.Names.{IsName}
use Rattle.volume_terms.specs.Sizes.{IsSizes, Sizes, greatest_length, root_number}
use Rattle.volume_terms.specs.declared.fault.StoreFault.{StoreFault}
use Rattle.volume_terms.specs.declared.fault.StoreFault.TheVariants as faults
use Rattle.posix_profile.specs.Changes.{new_number, with_bytes, written}
use Rattle.posix_profile.specs.Charge.{fits}
use Rattle.posix_profile.specs.State.{IsDirectory, IsFile, Name, Objects, entries_of}
use Rattle.posix_profile.specs.declared.reply.Kind.{Kind}
use Rattle.object_store.specs.Changes.{CanMake, IsAbsent, LeadsTo, empty_object, made}
use Rattle.object_store.specs.Facts.{bytes_of}
use Rattle.object_store.specs.Reported.{Reports}
use Rattle.object_store.specs.declared.change.DirectoryEntry.{DirectoryEntry}
use Rattle.object_store.specs.declared.change.ObjectChange.{ObjectChange}
use Rattle.object_store.specs.declared.change.ObjectChange.TheVariants as changes
use Rattle.object_store.specs.declared.table.ObjectTable.{ObjectTable}
use Rattle.pages.specs.Changes.{IsOnlyOf}
use Rattle.pages.specs.Maps.{PageMap, after_change}
use Rattle.pages.specs.State.{PagesState}
use Rattle.pages.specs.declared.change.Change.{Change}
use Rattle.directories.specs.Directories.{IsNamed}
use Rattle.directories.specs.Hashing.{KeepsFirst}
use Rattle.directories.specs.declared.leaving.LeftSlot.{LeftSlot}
use Rattle.directories.specs.declared.naming.KeptSlots.{KeptSlots}
use Rattle.paged_objects.specs.Changing.{ChangeEnds, HasLeft, HasLeftBy, outcome_of}
use Rattle.paged_objects.specs.Ending.{EndsPages, HasPages}
use Rattle.paged_objects.specs.Holding.{HoldsObject, HoldsObjects}
use Rattle.paged_objects.specs.Known.{HasObjects, ObjectsState, StaysIn, sizes_in}
use Rattle.paged_objects.specs.Naming.{HasNames, HoldsNamed, KeepsNames, WritesNames}
use Rattle.paged_objects.specs.Placed.{AreAllowed, PlacedObjects, placed}

-- after the change the pages are those of these objects, and no others
abbrev pub HoldsAfter : Sizes → PageMap → Objects → Change → Type 0
HoldsAfter z m objects change = HoldsObjects z (after_change change m) objects

-- after the change the store's pages are those of the second objects
abbrev pub MakesAll : PlacedObjects → Objects → Change → Type 0
MakesAll a new it = HoldsAfter a.sizes a.pages.present new it

-- after the change of pages they are those of the objects that the change of objects makes
abbrev pub MakesBy : PlacedObjects → ObjectChange → Change → Type 0
MakesBy a change it = MakesAll a (made a.objects change) it

-- each slot that the change of objects adds lies on a page of the change of pages
abbrev pub WritesBy : PlacedObjects → ObjectChange → Change → Type 0
WritesBy a change it = WritesNames a.sizes it a.objects (made a.objects change)

-- each name in one of the slots that the directory had, after the change of pages, was in that slot before
abbrev pub KeepsIn : PlacedObjects → ℕ → Change → Type 0
KeepsIn a directory it = KeepsFirst a.sizes a.pages.present it directory (map.len (entries_of (map.get a.objects directory)))

-- the directory in which the change of objects makes an object, or gives one a further name, keeps its slots so
abbrev pub KeepsBy : PlacedObjects → ObjectChange → Change → Type 0
KeepsBy a (changes.Create entry kind moment) it = KeepsIn a entry.directory it
KeepsBy a (changes.Name entry number moment) it = KeepsIn a entry.directory it
KeepsBy a change it = Unit {0}

-- whether a name may come or go with the change
abbrev pub changes_names : ObjectChange → Bool
changes_names (changes.Write number offset bytes moment) = false
changes_names (changes.Resize number length moment) = false
changes_names (changes.Forget number) = false
changes_names change = true

-- a change with which no name comes or goes has pages and cuts of its object alone
abbrev pub IsOnlyBy : ObjectChange → Change → Type 0
IsOnlyBy (changes.Write number offset bytes moment) it = IsOnlyOf it number
IsOnlyBy (changes.Resize number length moment) it = IsOnlyOf it number
IsOnlyBy (changes.Forget number) it = IsOnlyOf it number
IsOnlyBy change it = Unit {0}

-- where slots are kept, they are some of the directory's
abbrev pub IsKeptIn : Objects → ℕ → Option KeptSlots → Type 0
IsKeptIn objects directory kept = IfSome kept (λ it. (it.directory ≡ directory) × (it.count ≤ map.len (entries_of (map.get objects directory))))

-- slots are kept only of the directory in which the change makes an object, or gives one a further name
abbrev pub IsKeptBy : Objects → ObjectChange → Option KeptSlots → Type 0
IsKeptBy objects (changes.Create entry kind moment) kept = IsKeptIn objects entry.directory kept
IsKeptBy objects (changes.Name entry number moment) kept = IsKeptIn objects entry.directory kept
IsKeptBy objects change kept = kept ≡ None

-- if there is a change of pages, it makes these objects
abbrev pub MayMake : PlacedObjects → ObjectChange → Option Change → Type 0
MayMake a change planned = IfSome planned (MakesBy a change)

-- if there is a change of pages, each slot that is added lies on a page of it
abbrev pub MayWrite : PlacedObjects → ObjectChange → Option Change → Type 0
MayWrite a change planned = IfSome planned (WritesBy a change)

-- the index has the names of the objects that the change makes, with their slots in the pages after the change of pages
abbrev pub NamesBy : PlacedObjects → NameIndex → ObjectChange → Change → Type 0
NamesBy a names change it = HasNames names a.sizes (after_change it a.pages.present) (made a.objects change)

-- the index has them, with their slots in the pages that the second store has
abbrev pub NamesMade : PlacedObjects → NameIndex → PagesState → ObjectChange → Type 0
NamesMade a names q change = HasNames names a.sizes q.present (made a.objects change)

-- the name that the change took from its directory has left the slot, in the pages that the second store has
abbrev pub LeftMade : PlacedObjects → PagesState → ObjectChange → Option LeftSlot → Type 0
LeftMade a q change left = HasLeftBy a.sizes q.present (made a.objects change) change left

-- how the change of the objects ends in the pages
abbrev pub EndsBy : {A : Type 0} → PlacedObjects → ObjectChange → PagesState → Result A StoreFault → Type 0
EndsBy a change q result = EndsPages a.sizes a.pages q a.objects (made a.objects change) (outcome_of result)

-- how a change ends of all objects that the first state has, where it can be made
abbrev pub Makes : ObjectsState → ObjectsState → ObjectChange → Result (Unit {0}) StoreFault → Type 0
Makes old new change result =
    (objects : Objects) → HasObjects old objects → CanMake (sizes_in old) objects change → ChangeEnds old new objects (made objects change) result

-- this holds if the change can be made, and the number is the one that a new object gets
abbrev pub IfPlanned : PlacedObjects → ObjectChange → ℕ → Type 0 → Type 0
IfPlanned a change new A = CanMake a.sizes a.objects change → new ≡ new_number a.objects → A

-- the same where the kept slots are such as the change keeps
abbrev pub IfKept : PlacedObjects → ObjectChange → Option KeptSlots → ℕ → Type 0 → Type 0
IfKept a change kept new A = IsKeptBy a.objects change kept → IfPlanned a change new A

-- this holds if the number is the one that a new object gets, and the directory has not the name
abbrev pub IfNew : PlacedObjects → ℕ → DirectoryEntry → Type 0 → Type 0
IfNew a number entry A = number ≡ new_number a.objects → IsAbsent a.objects entry → A

-- this holds if the volume can have the objects, the directory has not the name, and the number is one that a slot can have
abbrev pub IfNameable : PlacedObjects → DirectoryEntry → ℕ → Type 0 → Type 0
IfNameable a entry number A = AreAllowed a → IsAbsent a.objects entry → IsSlotNumber number → A

-- this holds if the object is a file, and the place is not past the greatest length of one
abbrev pub IfWithin : PlacedObjects → ℕ → ℕ → Type 0 → Type 0
IfWithin a number place A = IsFile a.objects number → place ≤ greatest_length a.sizes → A

-- this holds if the volume can have the objects, the first name leads to this one, and the second is a name for a directory
abbrev pub IfMovable : PlacedObjects → DirectoryEntry → DirectoryEntry → ℕ → Type 0 → Type 0
IfMovable a from to number A = AreAllowed a → LeadsTo a.objects from number → IsDirectory a.objects to.directory → IsName to.name.now → A

-- this holds if the volume can have the objects, and the name is to go from one directory to another
abbrev pub IfRenamable : PlacedObjects → DirectoryEntry → ℕ → Type 0 → Type 0
IfRenamable a from directory A = AreAllowed a → IsDirectory a.objects from.directory → IsDirectory a.objects directory → A

-- This holds of a move, of objects that a sound store holds and whose names the index has, if its first name leads to the object and the
-- second is for a directory. Of other changes nothing is said.
abbrev pub OfMoved : NameIndex → PagesState → ObjectChange → (PlacedObjects → ObjectChange → Type 0) → Type 0
OfMoved names p (changes.Move from to number replaced dropped moment) A =
    (z : Sizes) (objects : Objects) → HoldsNamed names p z objects → LeadsTo objects from number → IsDirectory objects to.directory
    → A (placed p z objects) (changes.Move from to number replaced dropped moment)
OfMoved names p change A = Unit {0}

-- This holds of a move, of such objects, if both of its names are for directories. Of other changes nothing is said.
abbrev pub OfRenamed : NameIndex → PagesState → ObjectChange → (PlacedObjects → ObjectChange → Type 0) → Type 0
OfRenamed names p (changes.Move from to number replaced dropped moment) A =
    (z : Sizes) (objects : Objects) → HoldsNamed names p z objects → IsDirectory objects from.directory → IsDirectory objects to.directory
    → A (placed p z objects) (changes.Move from to number replaced dropped moment)
OfRenamed names p change A = Unit {0}

-- the move of a name to what a slot says, in this directory; what the second name led to is not said, and no object goes
abbrev pub renaming : DirectoryEntry → ℕ → Slot → ℕ → ObjectChange
renaming from directory slot moment = changes.Move from (record { directory = directory; name = slot.name }) slot.object None None moment

-- the directory has the name of the entry, if there is a change of pages, and else it has not
abbrev pub IsNamedIn : PlacedObjects → DirectoryEntry → Option Change → Type 0
IsNamedIn a from planned = IsNamed (entries_of (map.get a.objects from.directory)) from.name.now planned

-- what the name leads to in the directory, if it leads anywhere
abbrev pub IsFoundIn : PlacedObjects → ℕ → Name → Option ℕ → Type 0
IsFoundIn a directory name found = found ≡ map.get (entries_of (map.get a.objects directory)) name

-- the names of the directory, in the order of their bytes
abbrev pub AreNamesIn : PlacedObjects → ℕ → List Name → Type 0
AreNamesIn a directory names = names ≡ map.keys (entries_of (map.get a.objects directory))

-- the objects after a write of bytes into a file, from an offset on
abbrev pub after_write : Objects → ℕ → ℕ → List ℕ → ℕ → Objects
after_write objects number offset bytes moment = with_bytes objects moment number (written (bytes_of (map.get objects number)) offset bytes)

-- This holds of the objects that a store has and its volume can have, and of those that its pages hold after a change, if that has no more
-- pages than the store takes at once.
abbrev pub OfTaken : PagesState → Change → (Sizes → Objects → Objects → Type 0) → Type 0
OfTaken p planned A =
    (z : Sizes) (old new : Objects) → HasPages z p old → length planned.pages.items ≤ p.most → HoldsAfter z p.present new planned → A z old new

-- This holds of objects that the volume has room for and the pages hold after a change, which writes each slot that they have more than the
-- objects that a sound store holds and whose names the index has, and keeps those of their slots that are kept.
abbrev pub OfHashed : NameIndex → PagesState → Change → Option KeptSlots → (Sizes → PageMap → Objects → Type 0) → Type 0
OfHashed names p change kept A =
    (z : Sizes) (old new : Objects) → HoldsNamed names p z old → WritesNames z change old new → KeepsNames z p.present change old kept → HoldsAfter z p.present new change → IsSizes z
    → fits z new ≡ true → A z (after_change change p.present) new

-- this holds of objects whose names the index has, and which the table reports
abbrev pub OfNames : NameIndex → ObjectTable → (Sizes → PageMap → Objects → Type 0) → Type 0
OfNames names table A = (z : Sizes) (m : PageMap) (objects : Objects) → HasNames names z m objects → Reports table objects → A z m objects

-- and of objects that a change made
abbrev pub OfNamesMade : NameIndex → ObjectTable → ObjectChange → (Sizes → PageMap → Objects → Type 0) → Type 0
OfNamesMade names table change A =
    (z : Sizes) (m : PageMap) (objects : Objects) → HasNames names z m (made objects change) → Reports table (made objects change) → A z m (made objects change)

-- no entry of the directory has the hash of the entry's name in the slot that this left
abbrev pub HasLeftName : Sizes → PageMap → Objects → DirectoryEntry → Option LeftSlot → Type 0
HasLeftName z m objects entry left = HasLeft z m objects entry.directory (fnv1a entry.name.now) left

-- the pages of this number are those of an object without content
abbrev pub HoldsEmpty : Sizes → PageMap → ℕ → Kind → ℕ → Type 0
HoldsEmpty z m number kind moment = HoldsObject z m number (Some (empty_object kind moment))

-- this holds of pages of the store's size, in which no chunk of the number has one; it is not the root's
abbrev pub OfUnused : PagesState → ℕ → (Sizes → PageMap → Type 0) → Type 0
OfUnused p number A = (z : Sizes) (m : PageMap) → z.page_bytes ≡ p.page_bytes → number ≢ root_number → ((c : ℕ) → m number c ≡ None) → A z m

-- and of those in which the number may have a header
abbrev pub OfBare : PagesState → ℕ → (Sizes → PageMap → Type 0) → Type 0
OfBare p number A = (z : Sizes) (m : PageMap) → z.page_bytes ≡ p.page_bytes → number ≢ root_number → ((c : ℕ) → 1 ≤ c → m number c ≡ None) → A z m

-- a call that was refused memory leaves pages, table and index as they were
abbrev pub StaysIfRefused : ObjectsState → ObjectsState → Result (Unit {0}) StoreFault → Type 0
StaysIfRefused old new result = IsErrOf result faults.NoMemory → StaysIn old new
