-- A directory of a store's pages.
use Rattle.std.specs.Prelude.{◌≡◌, ◌<◌, ◌+◌, ◌/◌, ℕ, true, List, Option, Some, None}
use Rattle.std.specs.FinMap as map
use Rattle.std.specs.Int.{div_ceil}
use Rattle.flash_tree.specs.Tree.{ReadsDir, SlotIs}
use Rattle.page_tags.specs.Slots.{Entry}
use Rattle.volume_terms.specs.Sizes.{Sizes, page_slots}
use Rattle.posix_profile.specs.State.{Entries}
use Rattle.pages.specs.Maps.{PageMap, has}
use Rattle.pages.specs.State.{PagesState}
use Rattle.pages.specs.declared.change.Change.{Change}
use Rattle.directories.specs.Heads.{IsHeaded}
use Rattle.directories.specs.Slots.{NamedBy}

-- the object is this directory, in a sound store with pages of this size
pub record DirIn (p : PagesState) (z : Sizes) (o moment : ℕ) (entries : Entries) : Type 0 where
  pub sound : p.sound ≡ true
  pub size : z.page_bytes ≡ p.page_bytes
  pub reads : ReadsDir z (has p.present) o moment entries

-- a directory, as it is read from the pages of a volume
pub record Directory : Type 0 where
  pub sizes : Sizes
  pub pages : PageMap
  pub object : ℕ
  pub moment : ℕ
  pub entries : Entries
  pub reads : ReadsDir sizes (has pages) object moment entries

-- slot i of the directory is this entry
abbrev pub SlotOf : Sizes → PageMap → ℕ → ℕ → Entry → Type 0
SlotOf z m d i entry = SlotIs z (has m) d i entry

-- the object has no page behind those of so many slots
abbrev pub HasOnly : Sizes → PageMap → ℕ → ℕ → Type 0
HasOnly z m d count = (c : ℕ) → div_ceil count (page_slots z) < c → m d c ≡ None

-- the page of each of so many slots that is on the page of slot i is there
abbrev pub HasBeside : Sizes → PageMap → ℕ → ℕ → ℕ → Type 0
HasBeside z m d count i = (k : ℕ) → k < count → k / page_slots z ≡ i / page_slots z → (page : List ℕ) × (m d (1 + k / page_slots z) ≡ Some page)

-- after a change of the pages the object is this directory, with the spare blocks that were there
abbrev pub ReadsDirectory : Sizes → PageMap → ℕ → ℕ → Entries → ℕ → Type 0
ReadsDirectory z m o moment entries spare = (r : ReadsDir z (has m) o moment entries) × (r.fields.spare ≡ spare)

-- what is reported of a slot: it has the name and leads to the object, or it has another name
abbrev pub ReportsSlot : Sizes → PageMap → ℕ → ℕ → List ℕ → Option ℕ → Type 0
ReportsSlot z m d i name found = (e : Entry) × SlotOf z m d i e × NamedBy e name found

-- the header is there, and so is the page on which the next slot would be beside others
abbrev pub ReportsEnd : Sizes → PagesState → ℕ → Type 0
ReportsEnd z p d = (h : IsHeaded p d) × HasBeside z p.present d h.fields.length h.fields.length

-- there is a change exactly where the directory has the name
abbrev pub IsNamed : Entries → List ℕ → Option Change → Type 0
IsNamed entries name None = map.get entries name ≡ None
IsNamed entries name (Some change) = (object : ℕ) × (map.get entries name ≡ Some object)
