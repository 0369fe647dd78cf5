-- The slots of a directory that were gone through.
use Rattle.std.specs.Prelude.{◌≡◌, ◌≢◌, ◌⊎◌, ◌≤◌, ◌+◌, ◌*◌, ℕ, length, List, [], ◌∷◌, ◌++◌, map as list_map, slice_get, Some, None}
use Rattle.std.specs.FinMap as map
use Rattle.page_tags.specs.Slots.{Entry, slot_bytes}
use Rattle.flash_tree.specs.Slots.{IsTreeSlot}
use Rattle.flash_tree.specs.Mount.{AreSlots}
use Rattle.pages.specs.Maps.{PageMap, has}
use Rattle.posix_profile.specs.State.{Name, Entries}
use Rattle.volume_terms.specs.Sizes.{Sizes, page_slots}
use Rattle.name_index.specs.Hashes.{fnv1a}
use Rattle.tree_walk.specs.Broken.{IsBrokenIn}
use Rattle.tree_walk.specs.declared.broken.Broken.{Broken}
use Rattle.tree_walk.specs.declared.broken.Rule.{Rule}
use Rattle.tree_walk.specs.declared.broken.Rule.TheVariants as rules
use Rattle.tree_walk.specs.declared.directory.SlotPage.{SlotPage}
use Rattle.tree_walk.specs.declared.directory.Slots.{Slots}
use Rattle.tree_walk.specs.declared.fault.WalkFault.{WalkFault}
use Rattle.tree_walk.specs.declared.fault.WalkFault.TheVariants as faults

-- the name was not seen before, and the slot's object is the next, as is the hash of the name
pub record TakesEntry (entry : Entry) (old new : Slots) : Type 0 where
  pub was_new : map.get old.names entry.name ≡ None
  pub names : new.names ≡ map.insert old.names entry.name entry.object
  pub objects : new.objects.items ≡ old.objects.items ++ entry.object ∷ []
  pub hashes : new.hashes.items ≡ old.hashes.items ++ fnv1a entry.name ∷ []

-- the page of a directory's slots breaks this rule
abbrev pub broken_in : SlotPage → Rule → Broken
broken_in at rule = record { rule = rule; key = record { object = at.directory; chunk = 1 + at.number } }

abbrev pub broken_at : SlotPage → Rule → WalkFault
broken_at at rule = faults.Broken (broken_in at rule)

-- the bytes of the slot in this place of a page are no slot, or that of a name that was seen
abbrev pub TakesNone : List ℕ → SlotPage → (place : ℕ) → Slots → Broken → Type 0
TakesNone bytes at place old broken =
    ((broken ≡ broken_in at (rules.NoSlot place)) × ((entry : Entry) → IsTreeSlot entry → bytes ≢ slot_bytes entry))
    ⊎ ((broken ≡ broken_in at (rules.NameTwice place)) × ((entry : Entry) × IsTreeSlot entry × (bytes ≡ slot_bytes entry) × ((o : ℕ) × (map.get old.names entry.name ≡ Some o))))

-- the names of the slots, and no others
pub record AreSlotNames (slots : List Entry) (names : Entries) : Type 0 where
  pub each : (i : ℕ) (entry : Entry) → slice_get slots i ≡ Some entry → map.get names entry.name ≢ None
  pub only : (name : Name) (o : ℕ) → map.get names name ≡ Some o → (i : ℕ) × (entry : Entry) × (slice_get slots i ≡ Some entry) × (entry.name ≡ name)

-- the first n slots of the directory were seen, each with a name of its own
pub record HasSlots (z : Sizes) (m : PageMap) (d n : ℕ) (seen : Slots) : Type 0 where
  pub slots : List Entry
  pub are : AreSlots z (has m) d n slots
  pub names : AreSlotNames slots seen.names
  pub objects : seen.objects.items ≡ list_map (λ entry. entry.object) slots
  pub hashes : seen.hashes.items ≡ list_map (λ entry. fnv1a entry.name) slots

-- these are the objects that a directory of so many slots names
abbrev pub NamesFrom : Sizes → PageMap → ℕ → ℕ → List ℕ → Type 0
NamesFrom z m d count objects = (slots : List Entry) × AreSlots z (has m) d count slots × (objects ≡ list_map (λ entry. entry.object) slots)

-- this holds, by the sizes of a volume and by its pages, where this is a page of a directory's slots
abbrev pub OfSlotPage : SlotPage → List ℕ → (Sizes → PageMap → Type 0) → Type 0
OfSlotPage at page A = (z : Sizes) (m : PageMap) → m at.directory (1 + at.number) ≡ Some page → z.page_bytes ≡ length page → A z m

-- the slots of the pages before this one were seen
abbrev pub SlotsBefore : Sizes → PageMap → SlotPage → Slots → Type 0
SlotsBefore z m at seen = HasSlots z m at.directory (at.number * page_slots z) seen

-- and so many of this one's
abbrev pub SlotsUpTo : Sizes → PageMap → SlotPage → ℕ → Slots → Type 0
SlotsUpTo z m at count seen = HasSlots z m at.directory (at.number * page_slots z + count) seen

-- a directory that has at least these slots breaks the rule
abbrev pub BreaksUpTo : Sizes → PageMap → SlotPage → ℕ → Broken → Type 0
BreaksUpTo z m at count b = (total : ℕ) → at.number * page_slots z + count ≤ total → IsBrokenIn z m at.directory total b
