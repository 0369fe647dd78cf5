-- What the change of a directory writes, and what it leaves.
use Rattle.std.specs.Prelude.{◌≡◌, ◌≢◌, ◌⊎◌, ◌<◌, ◌≤◌, ℕ, ◌+◌, ◌-◌, ◌*◌, ◌/◌, ◌%◌, ◌++◌, min, List, [], ◌∷◌, length, take, replicate, Option, Some, None, Result, IfOk, IfSome, slice_index}
use Rattle.std.specs.Int.{div_ceil}
use Rattle.page_tags.specs.Headers.{IsHeader, header_bytes}
use Rattle.page_tags.specs.SlotEntry.{entry_of}
use Rattle.page_tags.specs.Slots.{Entry}
use Rattle.page_tags.specs.declared.slot.Slot.{Slot}
use Rattle.volume_terms.specs.Sizes.{Sizes, page_slots, slot_length}
use Rattle.pages.specs.Maps.{PageMap, IsPageOf, after_change}
use Rattle.pages.specs.Changes.{IsChange, IsOnlyOf}
use Rattle.pages.specs.State.{PagesState}
use Rattle.flash_tree.specs.Slots.{IsTreeSlot}
use Rattle.flash_tree.specs.declared.place.FreshPage.{FreshPage}
use Rattle.flash_tree.specs.declared.place.Key.{Key}
use Rattle.pages.specs.declared.change.Change.{Change}
use Rattle.pages.specs.declared.change.Cut.{Cut}
use Rattle.directories.specs.Heads.{fields_in}
use Rattle.directories.specs.Slots.{SlotAt, slot_in}
use Rattle.directories.specs.Directories.{SlotOf, HasOnly, HasBeside}
use Rattle.directories.specs.Stores.{ObjectIn, OfPages}
use Rattle.directories.specs.declared.head.DirectoryHead.{DirectoryHead}
use Rattle.directories.specs.declared.writing.Writing.{Writing}
use Rattle.directories.specs.declared.writing.Written.{Written}

-- the slot is the one that is written, and this entry then
abbrev pub IsAt : Option Written → ℕ → Entry → Type 0
IsAt None k entry = ⊥
IsAt (Some written) k entry = (k ≡ written.number) × (entry ≡ entry_of written.slot)

-- the slot is not the one that is written
abbrev pub IsNotAt : Option Written → ℕ → Type 0
IsNotAt None k = Unit {0}
IsNotAt (Some written) k = k ≢ written.number

-- the slot that is written, if it is of chunk c with n slots on a page, is one of the first m of the page
abbrev pub EndsWithin : Option Written → ℕ → ℕ → ℕ → Type 0
EndsWithin written n c m = IfSome written (λ (it : Written). it.number / n ≡ c → it.number % n < m)

-- the slot is one of those that are written, and this entry then
abbrev pub IsWritten : Writing → ℕ → Entry → Type 0
IsWritten writing k entry = IsAt (Some writing.first) k entry ⊎ IsAt writing.second k entry

-- the slot is none of those that are written
abbrev pub IsNotWritten : Writing → ℕ → Type 0
IsNotWritten writing k = IsNotAt (Some writing.first) k × IsNotAt writing.second k

-- the second slot is one of a tree, is there afterwards, and is not the first
pub record CanFollow (writing : Writing) (second : Written) : Type 0 where
  pub valid : IsTreeSlot (entry_of second.slot)
  pub within : second.number < writing.afterwards
  pub apart : second.number ≢ writing.first.number

-- the slot stays what it was
pub record StaysThere (writing : Writing) (k : ℕ) : Type 0 where
  pub other : IsNotWritten writing k
  pub before : k < writing.before
  pub afterwards : k < writing.afterwards

-- with n slots on a page, the second slot is on another one than the first, and has this number
pub record IsOnOther (n : ℕ) (writing : Writing) (number : ℕ) : Type 0 where
  pub second : Written
  pub second_is : writing.second ≡ Some second
  pub number_is : number ≡ second.number
  pub other : number / n ≢ writing.first.number / n

-- if there is a second slot, it is on the same page
abbrev pub AreOnOne : ℕ → Writing → Type 0
AreOnOne n writing = (k : ℕ) (e : Entry) → IsAt writing.second k e → k / n ≡ writing.first.number / n

-- the page of a slot of a directory, of so many bytes
pub record IsSlotsPage (d bytes number : ℕ) (page : FreshPage) : Type 0 where
  pub object_is : page.key.object ≡ d
  pub chunk_is : page.key.chunk ≡ 1 + number / (bytes / slot_length)
  pub size : length page.bytes.items ≡ bytes

-- The page of a chunk of slots: those of them that are written are there, the others that stay are those that were there, and
-- what lies past the last slot is zero.
pub record IsSlotPage (it : ObjectIn) (writing : Writing) (c : ℕ) (page : FreshPage) : Type 0 where
  pub object_is : page.key.object ≡ it.object
  pub chunk_is : page.key.chunk ≡ 1 + c
  pub size : length page.bytes.items ≡ it.sizes.page_bytes
  pub written : (k : ℕ) (e : Entry) → IsWritten writing k e → k / page_slots it.sizes ≡ c → SlotAt page.bytes.items (k % page_slots it.sizes) e
  pub committed : (k : ℕ) (e : Entry) → StaysThere writing k → k / page_slots it.sizes ≡ c → SlotOf it.sizes it.pages it.object k e → SlotAt page.bytes.items (k % page_slots it.sizes) e
  pub past : (j : ℕ) → slot_length * min (writing.afterwards - c * page_slots it.sizes) (page_slots it.sizes) ≤ j → slice_index page.bytes.items j ≡ 0

-- the directory has this header
pub record HasHead (z : Sizes) (m : PageMap) (d : ℕ) (head : DirectoryHead) : Type 0 where
  pub has : m d 0 ≡ Some (header_bytes (fields_in z.page_bytes head))
  pub valid : IsHeader z.page_bytes (fields_in z.page_bytes head)

-- the slots below a number stay, but for one
abbrev pub KeepsSlots : Sizes → PageMap → PageMap → ℕ → ℕ → ℕ → Type 0
KeepsSlots z old new d count but = (k : ℕ) (e : Entry) → k ≢ but → k < count → SlotOf z old d k e → SlotOf z new d k e

-- the pages of slots stay, but for those of the slots that are written
abbrev pub KeepsPages : Sizes → PageMap → PageMap → ℕ → Writing → Type 0
KeepsPages z old new d writing = (c : ℕ) → 1 ≤ c → ((k : ℕ) (e : Entry) → IsWritten writing k e → c ≢ 1 + k / page_slots z) → new d c ≡ old d c

-- the pages behind those of so many slots stay
abbrev pub KeepsBehind : Sizes → PageMap → PageMap → ℕ → ℕ → Type 0
KeepsBehind z old new d count = (c : ℕ) → div_ceil count (page_slots z) < c → new d c ≡ old d c

-- a page of the key is written
abbrev pub HasKey : Change → ℕ → ℕ → Type 0
HasKey change o c = (i : ℕ) × IsPageOf change.pages.items o c i

-- the bytes of slot i of the directory's page, whatever they say
abbrev pub IsSlotBytes : Sizes → PageMap → ℕ → ℕ → List ℕ → Type 0
IsSlotBytes z m d i bytes = (page : List ℕ) × (m d (1 + i / page_slots z) ≡ Some page) × (bytes ≡ slot_in page (i % page_slots z))

-- each page of the directory's slots that the change writes is zero past the last of so many
abbrev pub EndsInZeros : Sizes → Change → ℕ → ℕ → Type 0
EndsInZeros z change d count = (c i : ℕ) → (of : IsPageOf change.pages.items d (1 + c) i) → (j : ℕ) → slot_length * min (count - c * page_slots z) (page_slots z) ≤ j → slice_index of.page.bytes.items j ≡ 0

-- after the change the directory has this header, and the last slot is in place of the one that went; the others stay
pub record LosesSlot (z : Sizes) (old : PageMap) (change : Change) (d : ℕ) (head : DirectoryHead) (i : ℕ) : Type 0 where
  pub header : HasHead z (after_change change old) d head
  pub filled : i < head.length → (e : Entry) × SlotOf z old d head.length e × SlotOf z (after_change change old) d i e
  pub others : KeepsSlots z old (after_change change old) d head.length i
  pub zeros : EndsInZeros z change d head.length

-- the change cuts the directory behind the pages of so many slots, n on a page, exactly where the last of these pages is full
abbrev pub CutsBehind : ℕ → ℕ → ℕ → Change → Type 0
CutsBehind d n len change = ((len % n ≢ 0) × (change.cuts.items ≡ []))
    ⊎ ((len % n ≡ 0) × ((cut : Cut) × (change.cuts.items ≡ cut ∷ []) × (cut.object ≡ d) × (cut.from ≡ 1 + len / n)))

-- the key has the page that it had before the change
abbrev pub KeepsKey : PageMap → ℕ → ℕ → Change → Type 0
KeepsKey m o c change = after_change change m o c ≡ m o c

-- after the change the directory has this header, and the slots that it had
abbrev pub WritesHead : Sizes → PageMap → ℕ → DirectoryHead → Change → Type 0
WritesHead z old d head change =
    HasHead z (after_change change old) d head × ((count : ℕ) → KeepsSlots z old (after_change change old) d count count) × ((count : ℕ) → EndsInZeros z change d count)

-- the page of each slot that stays and is on the page of this one is there
abbrev pub HasPageOf : Sizes → PageMap → ℕ → Writing → ℕ → Type 0
HasPageOf z m d writing number = HasBeside z m d (min writing.before writing.afterwards) number

-- how many pages of slots are written at most
abbrev pub pages_of_slots : Option Written → ℕ
pages_of_slots None = 1
pages_of_slots (Some second) = 2

-- the change writes at most so many pages of the directory, of so many bytes each, and cuts nothing
pub record OnlyWrites (d bytes most : ℕ) (change : Change) : Type 0 where
  pub few : IsChange change bytes most
  pub only : IsOnlyOf change d
  pub uncut : change.cuts.items ≡ []

-- After the change the directory has this header and the slots that are written, the others that stay are those that it had, and past
-- the last all is zero.
pub record WritesIn (it : ObjectIn) (writing : Writing) (head : DirectoryHead) (change : Change) : Type 0 where
  pub header : HasHead it.sizes (after_change change it.pages) it.object head
  pub written : (k : ℕ) (e : Entry) → IsWritten writing k e → SlotOf it.sizes (after_change change it.pages) it.object k e
  pub others : (k : ℕ) (e : Entry) → StaysThere writing k → SlotOf it.sizes it.pages it.object k e → SlotOf it.sizes (after_change change it.pages) it.object k e
  pub zeros : EndsInZeros it.sizes change it.object writing.afterwards

-- the page of each slot that is written lies on a page of the change, and whatever the pages were before, the others of slots stay
pub record WritesPages (it : ObjectIn) (writing : Writing) (change : Change) : Type 0 where
  pub keys : (k : ℕ) (e : Entry) → IsWritten writing k e → HasKey change it.object (1 + k / page_slots it.sizes)
  pub others : (m : PageMap) → KeepsPages it.sizes m (after_change change m) it.object writing

-- a slot is written behind those that the header counts
abbrev pub pushing : DirectoryHead → Slot → Writing
pushing head slot = record { first = record { number = head.length; slot = slot }; second = None; before = head.length; afterwards = head.length + 1 }

-- the header then, with this moment
abbrev pub longer : DirectoryHead → ℕ → DirectoryHead
longer head moment = record { spare = head.spare; length = head.length + 1; moment = moment }

-- of a sound store: where the directory had no page behind those of so many slots, it has none behind those of so many others after the change
abbrev pub Shortens : {E : Type 0} → PagesState → ℕ → ℕ → ℕ → Result Change E → Type 0
Shortens p d from to result = OfPages p (λ z old. HasOnly z old d from → IfOk result (λ change. HasOnly z (after_change change old) d to))

-- the bytes are so many slots of the key's page, if there are any, and zeros behind them
abbrev pub HasFirstSlots : PagesState → Key → ℕ → List ℕ → Type 0
HasFirstSlots p key count bytes =
    (xs : List ℕ) × (count ≢ 0 → p.present key.object key.chunk ≡ Some xs) × (slot_length * count ≤ length xs)
    × (bytes ≡ take (slot_length * count) xs ++ replicate (p.page_bytes - slot_length * count) 0)
