-- What a salvage returns of one object.
-- From: this project.
use Rattle.std.specs.Prelude.{◌≡◌, ◌≢◌, ◌<◌, ℕ, ◌+◌, ◌-◌, ◌/◌, ◌%◌, true, List, [], ◌∷◌, ◌++◌, length, min, drop, map as list_map, Option, Some, None, slice_index}
use Rattle.page_tags.specs.Headers.{Fields, is_present}
use Rattle.page_tags.specs.declared.header.ObjectKind.TheVariants as kinds
use Rattle.page_tags.specs.Slots.{Entry}
use Rattle.posix_profile.specs.State.{Name}
use Rattle.volume_terms.specs.Sizes.{Sizes}
use Rattle.flash_tree.specs.Mount.{HasNone}
use Rattle.flash_tree.specs.Tree.{NewestMap, HasHeader, SlotIs, ByteIs}
use Rattle.pages.specs.State.{PagesState}
use Rattle.salvage.specs.declared.fault.SalvageFault.{SalvageFault}
use Rattle.salvage.specs.declared.fault.SalvageFault.TheVariants as faults
use Rattle.salvage.specs.declared.reported.ObjectInfo.{ObjectInfo}
use Rattle.salvage.specs.declared.reported.Listing.{Listing}
use Rattle.salvage.specs.declared.reported.SalvagedName.{SalvagedName}
use Rattle.salvage.specs.declared.reported.LostPart.{LostPart}
use Rattle.salvage.specs.declared.reported.Part.{Part}
use Rattle.salvage.specs.declared.reported.Part.TheVariants as parts

-- each fault has its cause: memory was refused, or the device has lost its power
abbrev pub WhyNotRead : PagesState → SalvageFault → Type 0
WhyNotRead new faults.NoMemory = Unit {0}
WhyNotRead new faults.Gone = new.device.gone ≡ true

-- the device has lost its power, and nothing else ends a call that takes no memory
abbrev pub LacksPower : PagesState → SalvageFault → Type 0
LacksPower new faults.NoMemory = ⊥
LacksPower new faults.Gone = new.device.gone ≡ true

-- the header says it
pub record IsInfoOf (info : ObjectInfo) (f : Fields) : Type 0 where
  pub kind : info.kind ≡ f.kind
  pub length_is : info.length ≡ f.length
  pub moment : info.moment ≡ f.moment

-- what the header of an object says, or that none reads
abbrev pub SaysInfo : Sizes → NewestMap → ℕ → Option ObjectInfo → Type 0
SaysInfo z m o None = (f : Fields) → HasHeader z m o f → ⊥
SaysInfo z m o (Some info) = (f : Fields) × HasHeader z m o f × IsInfoOf info f

-- names with their objects
abbrev pub pairs_in : List SalvagedName → List (Name × ℕ)
pairs_in names = list_map (λ (n : SalvagedName). (n.name.items, n.object)) names

-- the names of a listing with their objects
abbrev pub pairs_of : Listing → List (Name × ℕ)
pairs_of listing = pairs_in listing.names.items

-- The first slots of a directory, one after the other, with the names and objects of those that read and how many do not: a slot that
-- reads puts its own behind the others, and any other is one more that is lost.
pub data AreRead (z : Sizes) (m : NewestMap) (d : ℕ) : (count : ℕ) → List (Name × ℕ) → (lost : ℕ) → Type 0 where
  no_slots : AreRead z m d 0 [] 0
  reads : {n lost : ℕ} {pairs : List (Name × ℕ)} (entry : Entry) → AreRead z m d n pairs lost → SlotIs z m d n entry
      → AreRead z m d (n + 1) (pairs ++ (entry.name, entry.object) ∷ []) lost
  lacks : {n lost : ℕ} {pairs : List (Name × ℕ)} → AreRead z m d n pairs lost → ((entry : Entry) → SlotIs z m d n entry → ⊥)
      → AreRead z m d (n + 1) pairs (lost + 1)

-- of a directory of so many slots, the names of those that read, in their order, and how many do not
abbrev pub ListsSlots : Sizes → NewestMap → (d count : ℕ) → Listing → Type 0
ListsSlots z m d count listing = AreRead z m d count (pairs_of listing) listing.lost

-- what is listed of an object, or that no header of a directory reads
abbrev pub ListsDirectory : Sizes → NewestMap → ℕ → Option Listing → Type 0
ListsDirectory z m d None = (f : Fields) → HasHeader z m d f → f.kind ≢ kinds.Directory
ListsDirectory z m d (Some listing) = (f : Fields) × HasHeader z m d f × (f.kind ≡ kinds.Directory) × ListsSlots z m d f.length listing

-- how many bytes of a file of this length lie in one chunk from an offset on
abbrev pub rest_of_chunk : Sizes → (len offset : ℕ) → ℕ
rest_of_chunk z len offset = min (z.page_bytes - offset % z.page_bytes) (len - offset)

-- The chunk of the file at an offset is lost: the header says that it is present, and it has no page. So many bytes of it follow.
pub record IsLostPart (z : Sizes) (m : NewestMap) (o : ℕ) (f : Fields) (offset : ℕ) (part : LostPart) : Type 0 where
  pub within : offset < f.length
  pub chunk : part.chunk ≡ 1 + offset / z.page_bytes
  pub present : is_present f.bits part.chunk ≡ true
  pub none : HasNone m o part.chunk
  pub bytes : part.bytes ≡ rest_of_chunk z f.length offset

-- What is read of a file with this header, at an offset, into a buffer: as many bytes as it has room for and as lie in one chunk, or that
-- the chunk is lost.
abbrev pub ReadsPartOf : Sizes → NewestMap → ℕ → Fields → (offset : ℕ) → (buffer : List ℕ) → Part → Type 0
ReadsPartOf z m o f offset buffer (parts.Bytes n) =
    (n ≡ min (length buffer) (rest_of_chunk z f.length offset)) × ((i : ℕ) → i < n → ByteIs z m o f (offset + i) (slice_index buffer i))
ReadsPartOf z m o f offset buffer (parts.Lost part) = IsLostPart z m o f offset part

-- what is read of an object, or that no header of a file reads
abbrev pub ReadsPart : Sizes → NewestMap → ℕ → (offset : ℕ) → (buffer : List ℕ) → Option Part → Type 0
ReadsPart z m o offset buffer None = (f : Fields) → HasHeader z m o f → f.kind ≢ kinds.File
ReadsPart z m o offset buffer (Some part) = (f : Fields) × HasHeader z m o f × (f.kind ≡ kinds.File) × ReadsPartOf z m o f offset buffer part

-- what lies in the buffer past the bytes of the part stays, and all of it where the part is lost
abbrev pub KeepsPast : Part → (old new : List ℕ) → Type 0
KeepsPast (parts.Bytes n) old new = drop n new ≡ drop n old
KeepsPast (parts.Lost part) old new = new ≡ old

-- and all of it where no part is read
abbrev pub KeepsRest : Option Part → (old new : List ℕ) → Type 0
KeepsRest None old new = new ≡ old
KeepsRest (Some part) old new = KeepsPast part old new
