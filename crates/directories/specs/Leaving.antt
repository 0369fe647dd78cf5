-- A slot that a name leaves by a change, and the hash of the name that is in it then.
use Rattle.std.specs.Prelude.{◌≡◌, ◌≢◌, ℕ, ◌+◌, ◌/◌, List}
use Rattle.page_tags.specs.Slots.{Entry}
use Rattle.flash_tree.specs.declared.place.FreshPage.{FreshPage}
use Rattle.name_index.specs.Hashes.{fnv1a}
use Rattle.volume_terms.specs.Sizes.{Sizes, page_slots}
use Rattle.pages.specs.Maps.{PageMap, with_pages, after_change, IsPageOf, IsFirstOf}
use Rattle.pages.specs.declared.change.Change.{Change}
use Rattle.directories.specs.Directories.{SlotOf}
use Rattle.directories.specs.Writes.{HasKey}
use Rattle.directories.specs.declared.leaving.LeftSlot.{LeftSlot}

-- the first page of the key has these bytes
abbrev pub IsFirstPage : List FreshPage → ℕ → ℕ → List ℕ → Type 0
IsFirstPage pages o c bytes = (i : ℕ) × (first : IsFirstOf pages o c i) × (bytes ≡ first.0.page.bytes.items)

-- whatever the other pages are, the name in the slot has this hash
abbrev pub WritesHash : Sizes → List FreshPage → ℕ → ℕ → ℕ → Type 0
WritesHash z pages d slot hash = (m : PageMap) (e : Entry) → SlotOf z (with_pages pages m) d slot e → fnv1a e.name ≡ hash

-- and where one of these pages is the slot's, no name is in it
abbrev pub WritesNoName : Sizes → List FreshPage → ℕ → ℕ → Type 0
WritesNoName z pages d slot = (i : ℕ) → IsPageOf pages d (1 + slot / page_slots z) i → (m : PageMap) (e : Entry) → SlotOf z (with_pages pages m) d slot e → ⊥

-- whatever the pages were before, the name in the slot after the change has this hash, which is another than the name's
pub record LeavesName (z : Sizes) (change : Change) (d hash : ℕ) (left : LeftSlot) : Type 0 where
  pub other : left.hash ≢ hash
  pub written : (m : PageMap) (e : Entry) → SlotOf z (after_change change m) d left.slot e → fnv1a e.name ≡ left.hash

-- each slot that may have the name, and that lies on a page of the change, has a name with its hash afterwards
abbrev pub KeepsHash : (ℕ → Type 0) → Sizes → Change → ℕ → ℕ → Type 0
KeepsHash held z change d hash = (s : ℕ) → held s → HasKey change d (1 + s / page_slots z) → WritesHash z change.pages.items d s hash
