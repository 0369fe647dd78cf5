-- What a salvage is in the words of slots and of trees.
-- From: this project.
use Rattle.std.specs.Prelude.{◌≡◌, ◌↔◌, ◌<◌, ℕ, ◌+◌, List, length, min, take, drop, Option, Some, None, IsSome}
use Rattle.std.specs.List.{Contains}
use Rattle.std.specs.FinMap as map
use Rattle.volume_terms.specs.Sizes.{Sizes, root_number}
use Rattle.posix_profile.specs.State.{Name, Entries, File, Dir, Objects}
use Rattle.page_tags.specs.Slots.{Entry}
use Rattle.flash_tree.specs.Tree.{NewestMap, SlotIs}
use Rattle.salvage.specs.Reached.{IsReached}
use Rattle.salvage.specs.Reported.{pairs_of, ListsDirectory, ReadsPart, rest_of_chunk}
use Rattle.salvage.specs.declared.reported.Listing.{Listing}
use Rattle.salvage.specs.declared.reported.Part.{Part}
use Rattle.salvage.specs.declared.reported.Part.TheVariants as parts

-- The names and objects are those of the slots that read, and with those that are lost they are as many as the slots.
pub record HasSlots (z : Sizes) (m : NewestMap) (d count : ℕ) (listing : Listing) : Type 0 where
  pub each : (i : ℕ) (entry : Entry) → i < count → SlotIs z m d i entry → Contains (pairs_of listing) (entry.name, entry.object)
  pub only : (pair : Name × ℕ) → Contains (pairs_of listing) pair
      → (i : ℕ) × (entry : Entry) × (i < count) × SlotIs z m d i entry × (pair ≡ (entry.name, entry.object))
  pub lost : length listing.names.items + listing.lost ≡ count

-- exactly the objects of the tree are reached from the root
abbrev pub ReachesAll : Sizes → NewestMap → Objects → Type 0
ReachesAll z m objects = (o : ℕ) → IsReached z m root_number o ↔ IsSome (map.get objects o)

-- a listing has exactly these names, and no lost slot
abbrev pub HasNames : Option Listing → Entries → Type 0
HasNames None entries = ⊥
HasNames (Some listing) entries = (listing.lost ≡ 0) × ((name : Name) (o : ℕ) → Contains (pairs_of listing) (name, o) ↔ (map.get entries name ≡ Some o))

-- what is listed of a directory of the tree is all of it
abbrev pub ListsAll : Sizes → NewestMap → Objects → Type 0
ListsAll z m objects =
    (d moment : ℕ) (entries : Entries) (reported : Option Listing) → map.get objects d ≡ Some (Dir moment entries) → ListsDirectory z m d reported → HasNames reported entries

-- the bytes of a file from an offset on were read, as many as the buffer has room for and as lie in one chunk
abbrev pub HasBytes : Sizes → List ℕ → (offset : ℕ) → (buffer : List ℕ) → Option Part → Type 0
HasBytes z bytes offset buffer reported =
    (n : ℕ) × (reported ≡ Some (parts.Bytes n)) × (n ≡ min (length buffer) (rest_of_chunk z (length bytes) offset)) × (take n buffer ≡ take n (drop offset bytes))

-- what is read of a file of the tree is of its bytes
abbrev pub ReadsAll : Sizes → NewestMap → Objects → Type 0
ReadsAll z m objects =
    (o moment offset : ℕ) (bytes buffer : List ℕ) (reported : Option Part) → map.get objects o ≡ Some (File moment bytes) → ReadsPart z m o offset buffer reported
    → HasBytes z bytes offset buffer reported
