-- A name that moves within its directory.
use Rattle.std.specs.Prelude.{◌≡◌, ◌≢◌, ◌⊎◌, ◌<◌, ◌-◌, ℕ, Option, Some, None}
use Rattle.page_tags.specs.SlotEntry.{entry_of}
use Rattle.page_tags.specs.Slots.{Entry}
use Rattle.page_tags.specs.declared.slot.Slot.{Slot}
use Rattle.pages.specs.Maps.{after_change}
use Rattle.pages.specs.declared.change.Change.{Change}
use Rattle.directories.specs.Directories.{SlotOf}
use Rattle.directories.specs.Stores.{ObjectIn}
use Rattle.directories.specs.Writes.{EndsInZeros, HasHead}
use Rattle.directories.specs.declared.head.DirectoryHead.{DirectoryHead}
use Rattle.directories.specs.declared.lookup.Located.{Located}
use Rattle.directories.specs.declared.moving.Moving.{Moving}
use Rattle.directories.specs.declared.writing.Written.{Written}

-- where a slot is after one at a place was taken, which the last one is in then
abbrev pub IsMovedTo : Option Located → ℕ → ℕ → Option ℕ → Type 0
IsMovedTo None place last None = Unit {0}
IsMovedTo None place last (Some moved) = ⊥
IsMovedTo (Some found) place last None = found.place ≡ place
IsMovedTo (Some found) place last (Some moved) = (found.place ≢ place) × (((found.place ≡ last) × (moved ≡ place)) ⊎ ((found.place ≢ last) × (moved ≡ found.place)))

-- where the new slot is then: in place of the one with its name, or behind all that are left
abbrev pub number_by : Option ℕ → ℕ → ℕ
number_by None before = before - 1
number_by (Some target) before = target

-- how many slots there are then
abbrev pub count_by : Option ℕ → ℕ → ℕ
count_by None before = before
count_by (Some target) before = before - 1

-- the new slot, as it is written
abbrev pub written_by : Moving → Slot → Written
written_by moving slot = record { number = number_by moving.target moving.before; slot = slot }

-- the header then
abbrev pub header_by : Moving → DirectoryHead → DirectoryHead
header_by moving head = record { spare = head.spare; length = count_by moving.target moving.before; moment = head.moment }

-- After the change the directory has this header and the new slot; the last slot is in place of the one that was taken, where that is
-- another, and the new slot is not there. The others stay, and past the last all is zero.
pub record MovesSlot (it : ObjectIn) (moving : Moving) (put : Written) (head : DirectoryHead) (change : Change) : Type 0 where
  pub header : HasHead it.sizes (after_change change it.pages) it.object head
  pub put_there : SlotOf it.sizes (after_change change it.pages) it.object put.number (entry_of put.slot)
  pub filled : moving.place ≢ moving.before - 1 → moving.place ≢ put.number
      → (e : Entry) × SlotOf it.sizes it.pages it.object (moving.before - 1) e × SlotOf it.sizes (after_change change it.pages) it.object moving.place e
  pub others : (k : ℕ) (e : Entry) → k ≢ moving.place → k ≢ put.number → k < moving.before - 1 → SlotOf it.sizes it.pages it.object k e
      → SlotOf it.sizes (after_change change it.pages) it.object k e
  pub zeros : EndsInZeros it.sizes change it.object head.length
