-- What the parts of reading an image take of the bytes that a file has left, where these are known.
use Rattle.std.specs.Prelude.{◌≡◌, ◌≢◌, ◌<◌, ◌≤◌, ℕ, ◌+◌, ◌*◌, ◌/◌, ◌%◌, true, false, None, Some, List, length, take, drop, slice_index, Option}
use Rattle.nand_model.specs.Calls.{Device}
use Rattle.nand_model.specs.Flash.{Page}
use Rattle.nand_model.specs.Putting.{Rests}
use Rattle.nand_model.specs.MemoryState.{device}
use Rattle.nand_model.specs.declared.geometry.Geometry.{Geometry}
use Rattle.nand_model.specs.declared.memory.MemNand.{MemNand}
use Rattle.nand_image.specs.Layout.{slot_size}
use Rattle.nand_image.specs.Images.{HasHead, page_in}
use Rattle.nand_image.specs.declared.fault.ImageFault.{ImageFault}
use Rattle.nand_image.specs.declared.fault.ImageFault.TheVariants as faults

-- the first n bytes of a buffer were read, all that there were where it has room for more
pub record IsFront (buffer left : List ℕ) (now : Option (List ℕ)) (n : ℕ) : Type 0 where
  pub within : n ≤ length left
  pub bytes : take n buffer ≡ take n left
  pub rest : now ≡ Some (drop n left)
  pub ends : n < length buffer → length left ≡ n

-- a buffer after reads that were to fill it
abbrev pub FillsFront : Option (List ℕ) → Option (List ℕ) → List ℕ → ℕ → Type 0
FillsFront old new buffer n = (left : List ℕ) → old ≡ Some left → IsFront buffer left new n

-- the whole of a buffer was read
pub record IsWhole (buffer left : List ℕ) (now : Option (List ℕ)) : Type 0 where
  pub within : length buffer ≤ length left
  pub bytes : buffer ≡ take (length buffer) left
  pub rest : now ≡ Some (drop (length buffer) left)

-- a buffer after reads that filled it
abbrev pub FillsWhole : Option (List ℕ) → Option (List ℕ) → List ℕ → Type 0
FillsWhole old new buffer = (left : List ℕ) → old ≡ Some left → IsWhole buffer left new

-- Size, where the file has fewer bytes left than these, or Read
abbrev pub IsShort : Option (List ℕ) → ℕ → ImageFault → Type 0
IsShort old size faults.Read = Unit {0}
IsShort old size faults.Write = ⊥
IsShort old size faults.Size = (left : List ℕ) → old ≡ Some left → length left < size
IsShort old size faults.Magic = ⊥
IsShort old size faults.BadGeometry = ⊥
IsShort old size faults.NoMemory = ⊥

-- the head of an image was read
pub record IsHead (head left : List ℕ) (now : Option (List ℕ)) : Type 0 where
  pub has : HasHead left
  pub bytes : head ≡ take 32 left
  pub rest : now ≡ Some (drop 32 left)

-- what was read is the head of an image
abbrev pub TakesHead : Option (List ℕ) → Option (List ℕ) → List ℕ → Type 0
TakesHead old new head = (left : List ℕ) → old ≡ Some left → IsHead head left new

-- Magic, where no head is there, or Read
abbrev pub IsNoHead : Option (List ℕ) → ImageFault → Type 0
IsNoHead old faults.Read = Unit {0}
IsNoHead old faults.Write = ⊥
IsNoHead old faults.Size = ⊥
IsNoHead old faults.Magic = (left : List ℕ) → old ≡ Some left → ¬ HasHead left
IsNoHead old faults.BadGeometry = ⊥
IsNoHead old faults.NoMemory = ⊥

-- Of so many blocks, those are bad whose mark is not zero. Nothing else changes.
pub record PutsMarks (marks : List ℕ) (count : ℕ) (old new : Device) : Type 0 where
  pub rests : Rests old new
  pub zero_marks : (b : ℕ) → slice_index marks b ≡ 0 → new.flash.bad b ≡ old.flash.bad b
  pub other_marks : (b : ℕ) → b < count → slice_index marks b ≢ 0 → new.flash.bad b ≡ true
  pub next : new.flash.next ≡ old.flash.next
  pub page : new.flash.page ≡ old.flash.page

-- Pages were put, and nothing else: no block has a next page that had none.
pub record PutsPages (old new : Device) : Type 0 where
  pub rests : Rests old new
  pub bad : new.flash.bad ≡ old.flash.bad
  pub nexts : (b : ℕ) → old.flash.next b ≡ None → new.flash.next b ≡ None

-- so many pages of a device stand one after the other, with so many bytes of data each and so many of them to a block
pub record ArePages (size per_block count : ℕ) (page : ℕ → ℕ → Page) (left : List ℕ) (now : Option (List ℕ)) : Type 0 where
  pub within : count * (49 + size) ≤ length left
  pub each : (i : ℕ) → i < count → page (i / per_block) (i % per_block) ≡ page_in size (drop (i * (49 + size)) left)
  pub rest : now ≡ Some (drop (count * (49 + size)) left)

-- what was read is so many pages of a device
abbrev pub TakesPages : Option (List ℕ) → Option (List ℕ) → ℕ → ℕ → ℕ → (ℕ → ℕ → Page) → Type 0
TakesPages old new size per_block count page = (left : List ℕ) → old ≡ Some left → ArePages size per_block count page left new

-- nothing is left
abbrev pub IsEnded : Option (List ℕ) → Type 0
IsEnded old = (left : List ℕ) → old ≡ Some left → length left ≡ 0

-- Size, where more than nothing is left, or Read
abbrev pub IsLong : Option (List ℕ) → ImageFault → Type 0
IsLong old faults.Read = Unit {0}
IsLong old faults.Write = ⊥
IsLong old faults.Size = (left : List ℕ) → old ≡ Some left → 0 < length left
IsLong old faults.Magic = ⊥
IsLong old faults.BadGeometry = ⊥
IsLong old faults.NoMemory = ⊥

-- what is in an image after its head
abbrev pub body_size : Geometry → ℕ
body_size g = g.blocks + g.blocks * g.pages * slot_size g

-- the marks and the pages of a device, and nothing behind them
pub record IsBody (g : Geometry) (body : List ℕ) (device : Device) : Type 0 where
  pub size : length body ≡ body_size g
  pub good : (b : ℕ) → b < g.blocks → slice_index body b ≡ 0 → device.flash.bad b ≡ false
  pub bad : (b : ℕ) → b < g.blocks → slice_index body b ≢ 0 → device.flash.bad b ≡ true
  pub pages : (b p : ℕ) → b < g.blocks → p < g.pages → device.flash.page b p ≡ page_in g.bytes (drop (g.blocks + (b * g.pages + p) * slot_size g) body)

-- what was read is all that follows a head with these sizes
abbrev pub TakesBody : Geometry → Option (List ℕ) → MemNand → Type 0
TakesBody g old memory = (left : List ℕ) → old ≡ Some left → IsBody g left (device memory)

-- Size, where the file has more or fewer bytes left than these, Read or NoMemory
abbrev pub IsOfOtherSize : Option (List ℕ) → ℕ → ImageFault → Type 0
IsOfOtherSize old size faults.Read = Unit {0}
IsOfOtherSize old size faults.Write = ⊥
IsOfOtherSize old size faults.Size = (left : List ℕ) → old ≡ Some left → length left ≢ size
IsOfOtherSize old size faults.Magic = ⊥
IsOfOtherSize old size faults.BadGeometry = ⊥
IsOfOtherSize old size faults.NoMemory = Unit {0}
