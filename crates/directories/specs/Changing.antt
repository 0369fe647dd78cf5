-- What a change makes of a directory.
use Rattle.std.specs.Prelude.{◌≡◌, ◌+◌, ℕ, List, Option, None, Result, IfOk, IfSome, ◌≢◌}
use Rattle.std.specs.FinMap as map
use Rattle.std.specs.Int.{div_ceil}
use Rattle.page_tags.specs.Slots.{Entry}
use Rattle.page_tags.specs.declared.slot.Slot.{Slot}
use Rattle.name_index.specs.declared.index.NameIndex.{NameIndex}
use Rattle.volume_terms.specs.Sizes.{Sizes, page_slots}
use Rattle.posix_profile.specs.State.{Entries}
use Rattle.pages.specs.Maps.{after_change}
use Rattle.pages.specs.State.{PagesState}
use Rattle.pages.specs.declared.change.Change.{Change}
use Rattle.directories.specs.Directories.{DirIn, Directory, HasOnly, ReadsDirectory}
use Rattle.directories.specs.Hashing.{KeepsFirst, WritesPast}
use Rattle.directories.specs.Named.{NamedIn, IsFoundAt}
use Rattle.directories.specs.SlotLists.{IsWithout, IsPut, IsMoved, WritesSlots}
use Rattle.directories.specs.Heads.{IsHeadOf}
use Rattle.directories.specs.declared.renaming.Route.{Route}
use Rattle.directories.specs.declared.seeking.Sought.{Sought}
use Rattle.page_tags.specs.SlotEntry.{entry_of}
use Rattle.pages.specs.Changes.{IsChange}
use Rattle.directories.specs.Writes.{KeepsKey}

-- this holds of what was made, where something was
abbrev pub IfMade : {A E : Type 0} → Result (Option A) E → (A → Type 0) → Type 0
IfMade result P = IfOk result (λ made. IfSome made P)

-- the entries, of which the slot's name leads to its object
abbrev pub with_slot : Entries → Slot → Entries
with_slot entries slot = map.insert entries slot.name.now slot.object

-- the entries without a name, of which the slot's name then leads to its object
abbrev pub with_moved : Entries → List ℕ → Slot → Entries
with_moved entries from slot = with_slot (map.remove entries from) slot

-- none of the entries has the slot's name
abbrev pub IsNew : Entries → Slot → Type 0
IsNew entries slot = map.get entries slot.name.now ≡ None

-- this holds of the directory that the object is in a sound store
abbrev pub OfDir : PagesState → ℕ → (Directory → Type 0) → Type 0
OfDir p o A =
    (z : Sizes) (before : ℕ) (entries : Entries) (d : DirIn p z o before entries)
    → A (record { sizes = z; pages = p.present; object = o; moment = before; entries = entries; reads = d.reads })

-- the same of a directory of whose names the index has the hashes
abbrev pub OfNamed : NameIndex → PagesState → ℕ → (Directory → Type 0) → Type 0
OfNamed names p o A =
    (z : Sizes) (before : ℕ) (entries : Entries) (d : NamedIn names p z o before entries)
    → A (record { sizes = z; pages = p.present; object = o; moment = before; entries = entries; reads = d.reads })

-- the same of a directory in which the slot's name was sought: of what its header says, and where the name is
abbrev pub OfPut : PagesState → ℕ → Slot → Sought → (Directory → Type 0) → Type 0
OfPut p o slot sought A = OfDir p o (λ d. IsHeadOf sought.head d.reads.fields → IsFoundAt d.reads.slots d.entries slot.name.now sought.found → A d)

-- this holds where both ends of a route are directories of whose names the index has the hashes: of the entries of its target
abbrev pub OfRoute : NameIndex → PagesState → Route → (Entries → Type 0) → Type 0
OfRoute names p route A =
    (z : Sizes) (s t : ℕ) (left entries : Entries) (source : NamedIn names p z route.source s left) (target : NamedIn names p z route.target t entries) → A entries

-- how many pages the slots of a directory take
abbrev pub pages_of : Directory → ℕ
pages_of d = div_ceil (map.len d.entries) (page_slots d.sizes)

-- after the change the object is the directory with these entries, and with the spare blocks that were there
abbrev pub Becomes : Directory → ℕ → Entries → Change → Type 0
Becomes d moment new change = ReadsDirectory d.sizes (after_change change d.pages) d.object moment new d.reads.fields.spare

-- the object has no page behind those of the directory's slots
abbrev pub Ends : Directory → Type 0
Ends d = HasOnly d.sizes d.pages d.object (map.len d.entries)

-- after the change it has none behind those of so many slots as there are of these entries
abbrev pub EndsAfter : Directory → Entries → Change → Type 0
EndsAfter d new change = HasOnly d.sizes (after_change change d.pages) d.object (map.len new)

-- each slot behind those of the directory, up to so many, lies on a page of the change
abbrev pub WritesNew : Directory → ℕ → Change → Type 0
WritesNew d count change = WritesPast d.sizes change d.object (map.len d.entries) count

-- A slot is added behind those of the directory: it lies on a page of the change, and each name in one of the others after the change was in that
-- slot before.
pub record AddsSlot (d : Directory) (change : Change) : Type 0 where
  pub more : WritesNew d (map.len d.entries + 1) change
  pub stays : KeepsFirst d.sizes d.pages change d.object (map.len d.entries)

-- the change writes the pages of a list of slots that follows so from the directory's
abbrev pub RewritesIn : Directory → (List Entry → List Entry → Type 0) → Change → Type 0
RewritesIn d Follows change = (new : List Entry) × Follows d.reads.slots new × WritesSlots d.sizes change d.object new

-- After the change the directory has these entries, and no page behind those of their slots where it had none behind those before.
pub record Makes (d : Directory) (moment : ℕ) (new : Entries) (change : Change) : Type 0 where
  pub becomes : Becomes d moment new change
  pub ends : Ends d → EndsAfter d new change

-- the name is taken from the directory, and the pages of its slots without it are written
pub record TakesOut (d : Directory) (moment : ℕ) (name : List ℕ) (change : Change) : Type 0 where
  pub makes : Makes d moment (map.remove d.entries name) change
  pub slots : RewritesIn d (IsWithout name) change

-- the slot's name leads to its object: the pages of the slots with it are written, and each that is new
pub record PutsName (d : Directory) (moment : ℕ) (slot : Slot) (change : Change) : Type 0 where
  pub makes : Makes d moment (with_slot d.entries slot) change
  pub more : WritesNew d (map.len (with_slot d.entries slot)) change
  pub slots : RewritesIn d (IsPut (entry_of slot)) change

-- the name is taken from the directory, and the slot's name leads to its object then
pub record MovesName (d : Directory) (moment : ℕ) (from : List ℕ) (to : Slot) (change : Change) : Type 0 where
  pub makes : Makes d moment (with_moved d.entries from to) change
  pub more : WritesNew d (map.len (with_moved d.entries from to)) change
  pub slots : RewritesIn d (IsMoved from (entry_of to)) change

-- the change of two directories has at most four pages, and leaves each key of any other object
pub record ChangesBoth (p : PagesState) (route : Route) (made : Change) : Type 0 where
  pub change : IsChange made p.page_bytes 4
  pub others : (o c : ℕ) → o ≢ route.source → o ≢ route.target → KeepsKey p.present o c made
