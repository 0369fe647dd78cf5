-- What is said of the pages of a sound store, and of an object in them.
use Rattle.std.specs.Prelude.{◌≡◌, ◌≢◌, ℕ, true}
use Rattle.page_tags.specs.Slots.{Entry}
use Rattle.flash_tree.specs.declared.place.Key.{Key}
use Rattle.volume_terms.specs.Sizes.{Sizes, page_slots}
use Rattle.pages.specs.Maps.{PageMap}
use Rattle.pages.specs.Sound.{OfSound}
use Rattle.pages.specs.State.{PagesState}
use Rattle.pages.specs.Stores.{HasPage}
use Rattle.directories.specs.Directories.{SlotOf}
use Rattle.directories.specs.Heads.{IsHeaded}
use Rattle.directories.specs.Slots.{AreSlots}

-- this holds of the sizes of each volume with so many bytes on a page
abbrev pub OfSize : ℕ → (Sizes → Type 0) → Type 0
OfSize bytes A = (z : Sizes) → z.page_bytes ≡ bytes → A z

-- this holds of the pages of a sound store, by the sizes of each volume with pages of their size
abbrev pub OfPages : PagesState → (Sizes → PageMap → Type 0) → Type 0
OfPages p A = OfSound p (λ z. A z p.present)

-- this holds of the slots of a directory in a sound store: of how many a page has room for, and of which entry each one is
abbrev pub OfSlots : PagesState → ℕ → (ℕ → (ℕ → Entry → Type 0) → Type 0) → Type 0
OfSlots p d A = OfSound p (λ z. A (page_slots z) (SlotOf z p.present d))

-- this holds of a sound store in which the directory has so many slots
abbrev pub OfSlotted : PagesState → ℕ → ℕ → Type 0 → Type 0
OfSlotted p d count A = OfSound p (λ z. AreSlots (SlotOf z p.present d) 0 count → A)

-- this holds of a sound store in which the directory has a slot of this number
abbrev pub OfSlotAt : PagesState → ℕ → ℕ → Type 0 → Type 0
OfSlotAt p d i A = OfSound p (λ z. (e : Entry) → SlotOf z p.present d i e → A)

-- this holds of a sound store in which the object has the header of a directory
abbrev pub OfHeaded : PagesState → ℕ → Type 0 → Type 0
OfHeaded p d A = p.sound ≡ true → IsHeaded p d → A

-- this holds of a sound store in which the key has a page, where so many slots of it are more than none
abbrev pub OfSource : PagesState → Key → ℕ → Type 0 → Type 0
OfSource p key count A = p.sound ≡ true → (count ≢ 0 → HasPage p.present key.object key.chunk) → A

-- an object in the pages of a volume with these sizes
pub record ObjectIn : Type 0 where
  pub sizes : Sizes
  pub pages : PageMap
  pub object : ℕ

-- this holds of an object in a sound store
abbrev pub OfObject : PagesState → ℕ → (ObjectIn → Type 0) → Type 0
OfObject p o A = OfSound p (λ z. A (record { sizes = z; pages = p.present; object = o }))
