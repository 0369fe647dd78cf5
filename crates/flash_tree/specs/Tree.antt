-- What the newest pages show.
-- From: the format: headers and slots, `FORMATS.md`.
use Rattle.std.specs.Prelude.{◌≡◌, ◌⊎◌, ◌<◌, ◌≤◌, ℕ, ◌+◌, ◌*◌, ◌/◌, ◌%◌, true, false, List, length, take, drop, slice_index, slice_get, map as list_map, Some}
use Rattle.std.specs.FinMap as map
use Rattle.page_tags.specs.Headers.{Fields, IsHeader, header_bytes, is_present}
use Rattle.page_tags.specs.declared.header.ObjectKind.TheVariants as kinds
use Rattle.page_tags.specs.Slots.{Entry, slot_bytes}
use Rattle.volume_terms.specs.Sizes.{Sizes, page_slots}
use Rattle.nand_model.specs.Flash.{Flash}
use Rattle.posix_profile.specs.State.{Name, Entries, Object, File, Dir, Objects}
use Rattle.posix_profile.specs.WellFormed.{IsTree}
use Rattle.flash_tree.specs.Newest.{HasNewest}
use Rattle.flash_tree.specs.Slots.{IsTreeSlot}

-- the bytes of a page that a header can fill
pub record IsPageSize (d : ℕ) : Type 0 where
  pub least : 32 ≤ d
  pub most : d ≤ 4096

-- which data are the newest of a key: of an object's number and a chunk
abbrev pub NewestMap : Type 1
NewestMap = ℕ → ℕ → List ℕ → Type 0

-- a key has one newest data at most
abbrev pub IsSingle : NewestMap → Type 0
IsSingle m = (o c : ℕ) (xs ys : List ℕ) → m o c xs → m o c ys → xs ≡ ys

-- the newest page of chunk 0 of the object is this header
abbrev pub HasHeader : Sizes → NewestMap → ℕ → Fields → Type 0
HasHeader z m o f = m o 0 (header_bytes f) × IsHeader z.page_bytes f

-- byte i of a file: that of its chunk's newest page, or 0 where the chunk is not present
abbrev pub ByteIs : Sizes → NewestMap → ℕ → Fields → ℕ → ℕ → Type 0
ByteIs z m o f i byte =
    ((is_present f.bits (1 + i / z.page_bytes) ≡ true) × ((page : List ℕ) × m o (1 + i / z.page_bytes) page × (slice_index page (i % z.page_bytes) ≡ byte)))
    ⊎ ((is_present f.bits (1 + i / z.page_bytes) ≡ false) × (byte ≡ 0))

-- the object is this file: its header's length of bytes, and no more
pub record ReadsFile (z : Sizes) (m : NewestMap) (o : ℕ) (moment : ℕ) (bytes : List ℕ) : Type 0 where
  pub fields : Fields
  pub has : HasHeader z m o fields
  pub kind : fields.kind ≡ kinds.File
  pub when : fields.moment ≡ moment
  pub size : fields.length ≡ length bytes
  pub each : (i : ℕ) → i < length bytes → ByteIs z m o fields i (slice_index bytes i)

-- slot i of a directory is this entry
abbrev pub SlotIs : Sizes → NewestMap → ℕ → ℕ → Entry → Type 0
SlotIs z m o i entry =
    (page : List ℕ) × m o (1 + i / page_slots z) page × IsTreeSlot entry × (take 272 (drop (272 * (i % page_slots z)) page) ≡ slot_bytes entry)

-- names and objects of slots
abbrev pub slot_pairs : List Entry → List (Name × ℕ)
slot_pairs slots = list_map (λ entry. (entry.name, entry.object)) slots

-- the object is this directory: its header's length of slots, in which no name is there twice, are its entries
pub record ReadsDir (z : Sizes) (m : NewestMap) (o : ℕ) (moment : ℕ) (entries : Entries) : Type 0 where
  pub fields : Fields
  pub has : HasHeader z m o fields
  pub kind : fields.kind ≡ kinds.Directory
  pub when : fields.moment ≡ moment
  pub slots : List Entry
  pub size : fields.length ≡ length slots
  pub each : (i : ℕ) (entry : Entry) → slice_get slots i ≡ Some entry → SlotIs z m o i entry
  pub once : (i j : ℕ) (a b : Entry) → slice_get slots i ≡ Some a → slice_get slots j ≡ Some b → a.name ≡ b.name → i ≡ j
  pub entries_are : entries ≡ map.from_entries (slot_pairs slots)

-- the object reads as this file or directory
abbrev pub ReadsAs : Sizes → NewestMap → ℕ → Object → Type 0
ReadsAs z m o (File moment bytes) = ReadsFile z m o moment bytes
ReadsAs z m o (Dir moment entries) = ReadsDir z m o moment entries

-- the newest pages show these objects, which hang together as a tree
pub record Shows (z : Sizes) (m : NewestMap) (objects : Objects) : Type 0 where
  pub tree : IsTree z objects
  pub each : (o : ℕ) (x : Object) → map.get objects o ≡ Some x → ReadsAs z m o x

-- the newest pages of the flash show these objects
abbrev pub FlashShows : Sizes → Flash → Objects → Type 0
FlashShows z flash objects = Shows z (HasNewest flash) objects

-- which chunks of an object are looked up: its header, of a file those that are present, of a directory those of its slots
abbrev pub LooksUp : Sizes → Fields → ℕ → Type 0
LooksUp z f c =
    (c ≡ 0) ⊎ ((f.kind ≡ kinds.File) × (1 ≤ c) × (is_present f.bits c ≡ true)) ⊎ ((f.kind ≡ kinds.Directory) × ((i : ℕ) × (i < f.length) × (c ≡ 1 + i / page_slots z)))

-- the keys that are looked up to see these objects
pub record InFootprint (z : Sizes) (m : NewestMap) (objects : Objects) (o c : ℕ) : Type 0 where
  pub object : Object
  pub there : map.get objects o ≡ Some object
  pub fields : Fields
  pub has : HasHeader z m o fields
  pub looks : LooksUp z fields c

-- what one has at its footprint the other has too
abbrev pub KeepsFootprint : Sizes → NewestMap → NewestMap → Objects → Type 0
KeepsFootprint z m n objects = (o c : ℕ) (bytes : List ℕ) → InFootprint z m objects o c → m o c bytes → n o c bytes

-- what is looked up to see these objects on the old flash has the same newest data on the new one
abbrev pub KeepsTreePages : Sizes → Flash → Flash → Objects → Type 0
KeepsTreePages z old new objects = KeepsFootprint z (HasNewest old) (HasNewest new) objects
