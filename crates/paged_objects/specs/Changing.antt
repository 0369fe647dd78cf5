-- How a change of objects ends, and what it leaves of the index of their names.
use Rattle.std.specs.Prelude.{◌≡◌, ◌<◌, ℕ, Option, Some, None, Result, Ok, Err}
use Rattle.std.specs.FinMap as map
use Rattle.page_tags.specs.Slots.{Entry}
use Rattle.flash_tree.specs.Tree.{SlotIs}
use Rattle.name_index.specs.Hashes.{fnv1a}
use Rattle.volume_terms.specs.Sizes.{Sizes}
use Rattle.volume_terms.specs.declared.fault.StoreFault.{StoreFault}
use Rattle.volume_terms.specs.declared.fault.StoreFault.TheVariants as faults
use Rattle.posix_profile.specs.State.{Objects, IsDirectory}
use Rattle.object_store.specs.declared.change.ObjectChange.{ObjectChange}
use Rattle.object_store.specs.declared.change.ObjectChange.TheVariants as changes
use Rattle.object_store.specs.Reported.{Reports}
use Rattle.pages.specs.Maps.{PageMap, has}
use Rattle.pages.specs.declared.change.Change.{Change}
use Rattle.directories.specs.Leaving.{LeavesName}
use Rattle.directories.specs.declared.leaving.LeftSlot.{LeftSlot}
use Rattle.paged_objects.specs.Naming.{HasNames}
use Rattle.paged_objects.specs.Representing.{PagesRepresent}
use Rattle.paged_objects.specs.Ending.{Turns, Fails}
use Rattle.paged_objects.specs.Known.{ObjectsState, sizes_in, StaysIn}

-- what came of it, without the value
abbrev pub outcome_of : {A : Type 0} → Result A StoreFault → Result (Unit {0}) StoreFault
outcome_of (Ok value) = Ok tt
outcome_of (Err fault) = Err fault

-- how a change ends that was to make the second objects of the first
abbrev pub ChangeEnds : ObjectsState → ObjectsState → Objects → Objects → Result (Unit {0}) StoreFault → Type 0
ChangeEnds a b old new (Ok done) = PagesRepresent (sizes_in a) b.pages new × Reports b.table new × HasNames b.names (sizes_in a) b.pages.present new × Turns (sizes_in a) old a.pages b.pages
ChangeEnds a b old new (Err faults.NoMemory) = StaysIn a b
ChangeEnds a b old new (Err faults.Device) = Fails (sizes_in a) old a.pages b.pages
ChangeEnds a b old new (Err faults.Worn) = Fails (sizes_in a) old a.pages b.pages

-- the name that the change takes from its directory leaves this slot by the change of pages
abbrev pub LeavesBy : Sizes → Change → ObjectChange → LeftSlot → Type 0
LeavesBy z planned (changes.Remove entry removed dropped moment) left = LeavesName z planned entry.directory (fnv1a entry.name.now) left
LeavesBy z planned (changes.Move from to number replaced dropped moment) left = LeavesName z planned from.directory (fnv1a from.name.now) left
LeavesBy z planned change left = Unit {0}

-- no entry of the directory has a name with this hash in this slot
abbrev pub IsStale : Sizes → PageMap → Objects → (directory hash slot : ℕ) → Type 0
IsStale z m objects directory hash slot = (dir : IsDirectory objects directory) (e : Entry) → slot < map.len dir.1 → SlotIs z (has m) directory slot e → fnv1a e.name ≡ hash → ⊥

-- and none has the name's hash in the slot that it left
abbrev pub HasLeft : Sizes → PageMap → Objects → (directory hash : ℕ) → Option LeftSlot → Type 0
HasLeft z m objects directory hash None = Unit {0}
HasLeft z m objects directory hash (Some left) = IsStale z m objects directory hash left.slot

-- the name that the change took from its directory has left the slot
abbrev pub HasLeftBy : Sizes → PageMap → Objects → ObjectChange → Option LeftSlot → Type 0
HasLeftBy z m objects (changes.Remove entry removed dropped moment) left = HasLeft z m objects entry.directory (fnv1a entry.name.now) left
HasLeftBy z m objects (changes.Move from to number replaced dropped moment) left = HasLeft z m objects from.directory (fnv1a from.name.now) left
HasLeftBy z m objects change left = Unit {0}
