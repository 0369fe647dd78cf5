-- The hashes of the names that a change writes.
use Rattle.std.specs.Prelude.{◌≡◌, ◌<◌, ◌≤◌, ◌+◌, ◌-◌, ◌*◌, ◌/◌, ◌^◌, ℕ, nat_eq, cond, List, Option, Some, None, slice_get}
use Rattle.page_tags.specs.Headers.{Fields, IsHeaderOf}
use Rattle.page_tags.specs.Slots.{Entry}
use Rattle.page_tags.specs.declared.header.ObjectKind.TheVariants as kinds
use Rattle.flash_tree.specs.Tree.{HasHeader}
use Rattle.flash_tree.specs.declared.place.FreshPage.{FreshPage}
use Rattle.name_index.specs.Covering.{HasHashes}
use Rattle.name_index.specs.Hashes.{fnv1a}
use Rattle.name_index.specs.Names.{Holds}
use Rattle.name_index.specs.declared.index.NameIndex.{NameIndex}
use Rattle.volume_terms.specs.Sizes.{Sizes, page_slots}
use Rattle.pages.specs.Maps.{PageMap, has, after_change, IsFirstOf}
use Rattle.pages.specs.declared.change.Change.{Change}
use Rattle.directories.specs.Directories.{SlotOf}
use Rattle.directories.specs.Slots.{SlotAt}
use Rattle.directories.specs.Writes.{HasKey}
use Rattle.directories.specs.declared.naming.KeptSlots.{KeptSlots}

-- an index holds what another holds
abbrev pub HoldsMore : NameIndex → NameIndex → Type 0
HoldsMore old new = (d h s : ℕ) → Holds old d h s → Holds new d h s

-- how many first slots of a directory are kept
abbrev pub kept_count : Option KeptSlots → ℕ → ℕ
kept_count None d = 0
kept_count (Some kept) d = cond (nat_eq kept.directory d) kept.count 0

-- each name in one of so many first slots of the directory after the change was in that slot before
abbrev pub KeepsFirst : Sizes → PageMap → Change → ℕ → ℕ → Type 0
KeepsFirst z m change d count = (s : ℕ) (e : Entry) → s < count → SlotOf z (after_change change m) d s e → SlotOf z m d s e

-- the index has the hash of each name in the first n slots of a page that is of a directory's slots, but for the directory's slots before one
abbrev pub HoldsPage : NameIndex → ℕ → ℕ → FreshPage → Type 0
HoldsPage names n from page = (k : ℕ) (e : Entry) → k < n → SlotAt page.bytes.items k e → from ≤ (page.key.chunk - 1) * n + k → (page.key.chunk - 1) * n + k < 2 ^ 32
    → Holds names page.key.object (fnv1a e.name) ((page.key.chunk - 1) * n + k)

-- the first page of an object's header among these is not that of a directory
abbrev pub SaysNoDirectory : List FreshPage → ℕ → Type 0
SaysNoDirectory pages o = (i : ℕ) × (first : IsFirstOf pages o 0 i) × ((f : Fields) → IsHeaderOf first.0.page.bytes.items f → f.kind ≡ kinds.Directory → ⊥)

-- each slot of the directory from a number to another lies on a page of the change
abbrev pub WritesPast : Sizes → Change → ℕ → ℕ → ℕ → Type 0
WritesPast z change d from to = (s : ℕ) → from ≤ s → s < to → HasKey change d (1 + s / page_slots z)

-- After the change the object is a directory, each of whose slots from a number on lies on a page of the change.
pub record WritesNewSlots (z : Sizes) (m : PageMap) (change : Change) (d before later : ℕ) : Type 0 where
  pub fields : Fields
  pub has_header : HasHeader z (has (after_change change m)) d fields
  pub kind : fields.kind ≡ kinds.Directory
  pub within_limit : later < 2 ^ 32
  pub written : WritesPast z change d before later

-- where the page is of slots, and of an object that none of the pages says to be no directory, the index has the hash of each name on it that
-- is in no kept slot
abbrev pub HashesPage : NameIndex → List FreshPage → ℕ → Option KeptSlots → FreshPage → Type 0
HashesPage names pages n kept page = 1 ≤ page.key.chunk → (SaysNoDirectory pages page.key.object → ⊥) → HoldsPage names n (kept_count kept page.key.object) page

-- so of each of the pages
abbrev pub HashesPages : NameIndex → List FreshPage → ℕ → Option KeptSlots → Type 0
HashesPages names pages n kept = (i : ℕ) (page : FreshPage) → slice_get pages i ≡ Some page → HashesPage names pages n kept page

-- this holds of each directory after the change whose new slots lie on pages of it, of whose names before the index has the hashes, and whose kept
-- slots are some of those before and stay: of the pages after the change, and of how many slots there are then
abbrev pub OfNewSlots : ℕ → Change → Option KeptSlots → NameIndex → (Sizes → PageMap → ℕ → ℕ → Type 0) → Type 0
OfNewSlots bytes change kept names A =
    (z : Sizes) (m : PageMap) (d before later : ℕ) → z.page_bytes ≡ bytes → WritesNewSlots z m change d before later → HasHashes names z m d before
    → kept_count kept d ≤ before → KeepsFirst z m change d (kept_count kept d) → A z (after_change change m) d later
