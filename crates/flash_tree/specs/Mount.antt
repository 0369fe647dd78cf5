-- What a mount answers of a flash.
-- From: this project.
use Rattle.std.specs.Prelude.{◌≡◌, ◌≢◌, ◌⊎◌, ◌<◌, ◌≤◌, ℕ, ◌+◌, ◌-◌, Bool, true, false, List, [], ◌∷◌, ◌++◌, length, slice_get, map as list_map, count_by, nat_eq, Some, if◌then◌else◌}
use Rattle.std.specs.List.{list_any, range_with_len}
use Rattle.nand_model.specs.Flash.{Flash}
use Rattle.nand_model.specs.declared.geometry.Geometry.{Geometry}
use Rattle.page_tags.specs.Headers.{Fields, IsFirstFault, is_present}
use Rattle.page_tags.specs.Slots.{Entry}
use Rattle.page_tags.specs.declared.header.HeaderFault.{HeaderFault}
use Rattle.page_tags.specs.declared.header.HeaderFault.TheVariants as faults
use Rattle.page_tags.specs.declared.header.ObjectKind.TheVariants as kinds
use Rattle.volume_terms.specs.Sizes.{Sizes, capacity, root_number}
use Rattle.posix_profile.specs.State.{Objects}
use Rattle.posix_profile.specs.Charge.{charge}
use Rattle.flash_tree.specs.Newest.{Spot, IsNewest, HasNewest}
use Rattle.flash_tree.specs.Tree.{NewestMap, HasHeader, SlotIs, Shows, FlashShows, InFootprint}

-- why a flash is no tree: an object's header is of a newer format, or something is amiss
pub data Wrong : Type 0 where
  IsNewer : (format : ℕ) → Wrong
  IsDamaged : Wrong

-- what a header's fault says of the flash
abbrev pub wrong_by : HeaderFault → Wrong
wrong_by faults.Magic = IsDamaged
wrong_by (faults.Newer format) = IsNewer format
wrong_by faults.Kind = IsDamaged
wrong_by faults.Length = IsDamaged
wrong_by faults.Pad = IsDamaged

-- a key has no newest data
abbrev pub HasNone : NewestMap → ℕ → ℕ → Type 0
HasNone m o c = (page : List ℕ) → m o c page → ⊥

-- the newest page of chunk 0 of the object is no header, by this first fault
abbrev pub HasHeaderFault : NewestMap → ℕ → HeaderFault → Type 0
HasHeaderFault m o fault = (page : List ℕ) × m o 0 page × IsFirstFault page fault

-- each chunk that the header says is present is there
abbrev pub HasChunks : NewestMap → ℕ → Fields → Type 0
HasChunks m o f = (c : ℕ) → 1 ≤ c → is_present f.bits c ≡ true → (page : List ℕ) × m o c page

-- and one is not
abbrev pub LacksChunk : NewestMap → ℕ → Fields → Type 0
LacksChunk m o f = (c : ℕ) × (1 ≤ c) × (is_present f.bits c ≡ true) × HasNone m o c

-- these are the slots of a directory of so many, each with a name of its own
pub record AreSlots (z : Sizes) (m : NewestMap) (o count : ℕ) (slots : List Entry) : Type 0 where
  pub size : count ≡ length slots
  pub each : (i : ℕ) (entry : Entry) → slice_get slots i ≡ Some entry → SlotIs z m o i entry
  pub once : (i j : ℕ) (a b : Entry) → slice_get slots i ≡ Some a → slice_get slots j ≡ Some b → a.name ≡ b.name → i ≡ j

-- one of so many slots is no entry, or two have the same name
abbrev pub LacksSlots : Sizes → NewestMap → ℕ → ℕ → Type 0
LacksSlots z m o count =
    ((i : ℕ) × (i < count) × ((entry : Entry) → SlotIs z m o i entry → ⊥))
    ⊎ ((i : ℕ) × (j : ℕ) × (i < j) × (j < count) × (a : Entry) × (b : Entry) × SlotIs z m o i a × SlotIs z m o j b × (a.name ≡ b.name))

-- what going through an object finds: what is wrong with it, or the objects that it names, in the order of its slots
pub data Finding : Type 0 where
  Stops : (wrong : Wrong) → Finding
  Leads : (objects : List ℕ) → Finding

-- a file that is there whole names none
abbrev pub IsFileThere : Sizes → NewestMap → ℕ → List ℕ → Type 0
IsFileThere z m o named = (f : Fields) × HasHeader z m o f × (f.kind ≡ kinds.File) × HasChunks m o f × (named ≡ [])

-- a directory that is there whole names the objects of its slots
abbrev pub IsDirectoryThere : Sizes → NewestMap → ℕ → List ℕ → Type 0
IsDirectoryThere z m o named =
    (f : Fields) × HasHeader z m o f × (f.kind ≡ kinds.Directory) × (slots : List Entry) × AreSlots z m o f.length slots × (named ≡ list_map (λ entry. entry.object) slots)

-- the header is there, and a chunk or a slot is not
abbrev pub LacksContent : Sizes → NewestMap → ℕ → Type 0
LacksContent z m o =
    (f : Fields) × HasHeader z m o f × (((f.kind ≡ kinds.File) × LacksChunk m o f) ⊎ ((f.kind ≡ kinds.Directory) × LacksSlots z m o f.length))

-- what is found of an object
abbrev pub Finds : Sizes → NewestMap → ℕ → Finding → Type 0
Finds z m o (Leads named) = IsFileThere z m o named ⊎ IsDirectoryThere z m o named
Finds z m o (Stops wrong) =
    ((wrong ≡ IsDamaged) × HasNone m o 0)
    ⊎ ((fault : HeaderFault) × HasHeaderFault m o fault × (wrong ≡ wrong_by fault))
    ⊎ ((wrong ≡ IsDamaged) × LacksContent z m o)

-- the list with each of these at its end that is not on it yet
abbrev pub with_new : List ℕ → List ℕ → List ℕ
with_new list [] = list
with_new list (o ∷ named) = if list_any (nat_eq o) list then with_new list named else with_new (list ++ o ∷ []) named

-- how the going through a list of objects ends: at something wrong, or with the whole list
pub data ListEnd : Type 0 where
  Wrongly : (wrong : Wrong) → ListEnd
  Wholly : (list : List ℕ) → ListEnd

-- The list is gone through in order from place n on. What an object names, and is not on the list yet, is added at its end.
pub data GoesThrough (z : Sizes) (m : NewestMap) : List ℕ → ℕ → ListEnd → Type 0 where
  ends : {list : List ℕ} {n : ℕ} → length list ≡ n → GoesThrough z m list n (Wholly list)
  stops : {list : List ℕ} {n : ℕ} (o : ℕ) (wrong : Wrong) → slice_get list n ≡ Some o → Finds z m o (Stops wrong) → GoesThrough z m list n (Wrongly wrong)
  goes : {list : List ℕ} {n : ℕ} {end : ListEnd} (o : ℕ) (named : List ℕ) → slice_get list n ≡ Some o → Finds z m o (Leads named)
      → GoesThrough z m (with_new list named) (n + 1) end → GoesThrough z m list n end

-- going through the list from place n on, by the newest pages of the flash, ends so
abbrev pub EndsBy : Sizes → Flash → List ℕ → ℕ → ListEnd → Type 0
EndsBy z flash list n end = GoesThrough z (HasNewest flash) list n end

-- the numbers of a volume with so many spare blocks on a device of these sizes
abbrev pub sizes_of : Geometry → ℕ → Sizes
sizes_of g spare = record { page_bytes = g.bytes; block_pages = g.pages; blocks = g.blocks; spare_blocks = spare }

-- the root is a directory, and its header's spare blocks leave blocks enough
pub record IsVolume (g : Geometry) (m : NewestMap) (spare : ℕ) : Type 0 where
  pub fields : Fields
  pub has : HasHeader (sizes_of g spare) m root_number fields
  pub kind : fields.kind ≡ kinds.Directory
  pub spare_is : fields.spare ≡ spare
  pub room : spare + 4 ≤ g.blocks

-- there is no root's header at all
abbrev pub IsNoVolume : NewestMap → Type 0
IsNoVolume m = HasNone m root_number 0 ⊎ HasHeaderFault m root_number faults.Magic

-- what is wrong with the root's header
abbrev pub HasWrongRoot : Geometry → NewestMap → Wrong → Type 0
HasWrongRoot g m wrong =
    ((fault : HeaderFault) × HasHeaderFault m root_number fault × (fault ≢ faults.Magic) × (wrong ≡ wrong_by fault))
    ⊎ ((wrong ≡ IsDamaged) × (f : Fields) × HasHeader (sizes_of g 0) m root_number f × ((f.kind ≡ kinds.File) ⊎ (g.blocks < f.spare + 4)))

-- the slot of this number in a directory of the list is this entry
pub record IsSlotIn (z : Sizes) (m : NewestMap) (list : List ℕ) (directory i : ℕ) (entry : Entry) : Type 0 where
  pub place : ℕ
  pub listed : slice_get list place ≡ Some directory
  pub fields : Fields
  pub has : HasHeader z m directory fields
  pub kind : fields.kind ≡ kinds.Directory
  pub within : i < fields.length
  pub slot : SlotIs z m directory i entry

-- two slots of directories of the list name one directory
pub record NamesTwice (z : Sizes) (m : NewestMap) (list : List ℕ) : Type 0 where
  pub named : ℕ
  pub fields : Fields
  pub has : HasHeader z m named fields
  pub kind : fields.kind ≡ kinds.Directory
  pub directory : ℕ
  pub other : ℕ
  pub i : ℕ
  pub j : ℕ
  pub entry : Entry
  pub other_entry : Entry
  pub first : IsSlotIn z m list directory i entry
  pub second : IsSlotIn z m list other j other_entry
  pub leads : entry.object ≡ named
  pub other_leads : other_entry.object ≡ named
  pub apart : (directory ≢ other) ⊎ (i ≢ j)

-- how many blocks are marked bad
abbrev pub bad_blocks : Geometry → Flash → ℕ
bad_blocks g flash = count_by flash.bad (range_with_len 0 g.blocks)

-- the block is good, and holds no newest page of the tree
pub record IsFree (g : Geometry) (flash : Flash) (z : Sizes) (objects : Objects) (b : ℕ) : Type 0 where
  pub within : b < g.blocks
  pub good : flash.bad b ≡ false
  pub apart : (o c : ℕ) (s : Spot) → InFootprint z (HasNewest flash) objects o c → IsNewest flash o c s → s.block ≢ b

-- so many blocks, no two the same, are free
pub record HasFree (g : Geometry) (flash : Flash) (z : Sizes) (objects : Objects) (count : ℕ) : Type 0 where
  pub blocks : List ℕ
  pub size : length blocks ≡ count
  pub once : (i j b : ℕ) → slice_get blocks i ≡ Some b → slice_get blocks j ≡ Some b → i ≡ j
  pub each : (i b : ℕ) → slice_get blocks i ≡ Some b → IsFree g flash z objects b

-- a test picks so many blocks, or more, and each that it picks is free
pub record PicksFree (g : Geometry) (flash : Flash) (z : Sizes) (objects : Objects) (count : ℕ) : Type 0 where
  pub picks : ℕ → Bool
  pub sufficient : count ≤ count_by picks (range_with_len 0 g.blocks)
  pub each : (b : ℕ) → b < g.blocks → picks b ≡ true → IsFree g flash z objects b

-- a volume can go on with the tree: it fits, and blocks enough are free, as long as not too many are bad
pub record HasRoom (g : Geometry) (flash : Flash) (spare : ℕ) (objects : Objects) : Type 0 where
  pub fits : charge (sizes_of g spare) objects ≤ capacity (sizes_of g spare)
  pub free : bad_blocks g flash ≤ spare → HasFree g flash (sizes_of g spare) objects (1 + spare - bad_blocks g flash)

-- the flash shows this tree of a volume of so many spare blocks, and the volume can go on with it
pub record HasUsableTree (g : Geometry) (flash : Flash) (spare : ℕ) (objects : Objects) : Type 0 where
  pub volume : IsVolume g (HasNewest flash) spare
  pub shows : FlashShows (sizes_of g spare) flash objects
  pub room : HasRoom g flash spare objects

-- what a mount answers where neither power nor memory ends it
pub data Answer : Type 0 where
  NotAVolume : Answer
  IsWrong : (wrong : Wrong) → Answer
  IsTreeOf : (spare : ℕ) (objects : Objects) → Answer

-- an object that is named is not there, or not whole, in the order of the list
abbrev pub HasWrongObject : Geometry → NewestMap → Wrong → Type 0
HasWrongObject g m wrong = (spare : ℕ) × IsVolume g m spare × GoesThrough (sizes_of g spare) m (root_number ∷ []) 0 (Wrongly wrong)

-- all are whole, but two names lead to one directory
abbrev pub HasTwoNames : Geometry → NewestMap → Wrong → Type 0
HasTwoNames g m wrong = (spare : ℕ) × IsVolume g m spare × (wrong ≡ IsDamaged) × (list : List ℕ)
    × GoesThrough (sizes_of g spare) m (root_number ∷ []) 0 (Wholly list) × NamesTwice (sizes_of g spare) m list

-- a tree is shown, but a volume cannot go on with it
abbrev pub LacksRoom : Geometry → Flash → Wrong → Type 0
LacksRoom g flash wrong = (spare : ℕ) × IsVolume g (HasNewest flash) spare × (wrong ≡ IsDamaged) × (objects : Objects)
    × Shows (sizes_of g spare) (HasNewest flash) objects × (HasRoom g flash spare objects → ⊥)

-- The answer of a flash: no volume; what is first found wrong, with the root's header, with an object, with the names of
-- directories, or with the room; or the tree that is shown.
abbrev pub Answers : Geometry → Flash → Answer → Type 0
Answers g flash NotAVolume = IsNoVolume (HasNewest flash)
Answers g flash (IsWrong wrong) =
    HasWrongRoot g (HasNewest flash) wrong ⊎ HasWrongObject g (HasNewest flash) wrong ⊎ HasTwoNames g (HasNewest flash) wrong ⊎ LacksRoom g flash wrong
Answers g flash (IsTreeOf spare objects) = IsVolume g (HasNewest flash) spare × Shows (sizes_of g spare) (HasNewest flash) objects × HasRoom g flash spare objects
