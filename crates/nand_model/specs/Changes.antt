-- What becomes of a flash, however its calls end.
use Rattle.std.specs.Prelude.{◌≡◌, ◌≢◌, ◌⊎◌, ℕ, true, false, List, Some, None, Result}
use Rattle.nand_model.specs.Flash.{Flash, Erased, Uncorrectable, IsClean}
use Rattle.nand_model.specs.Calls.{Device, Lasts, Programs}
use Rattle.nand_model.specs.declared.nand.ProgramFault.{ProgramFault}

-- all pages erased, no block bad, none with a next page
pub record IsBlank (flash : Flash) : Type 0 where
  pub pages : (b p : ℕ) → flash.page b p ≡ Erased
  pub good : (b : ℕ) → flash.bad b ≡ false
  pub nexts : (b : ℕ) → flash.next b ≡ None

-- every count is 0 since it was made
pub record CountsNothing (device : Device) : Type 0 where
  pub cuts : device.cuts ≡ 0
  pub failures : device.failures ≡ 0
  pub changes : device.changes ≡ 0
  pub reads : device.reads ≡ 0

-- Power comes back: pages, marks and counts stay, and no block has a next page.
pub record PowersUp (old new : Device) : Type 0 where
  pub geometry : new.geometry ≡ old.geometry
  pub honest : new.honest ≡ old.honest
  pub gone : new.gone ≡ false
  pub steady : new.steady ≡ true
  pub page : new.flash.page ≡ old.flash.page
  pub bad : new.flash.bad ≡ old.flash.bad
  pub nexts : (b : ℕ) → new.flash.next b ≡ None
  pub cuts : new.cuts ≡ old.cuts
  pub failures : new.failures ≡ old.failures
  pub changes : new.changes ≡ old.changes
  pub reads : new.reads ≡ old.reads

-- Page p is the next of block b of an honest device, and the pages of each block from its next page on are erased.
pub record IsNextPage (d : Device) (b p : ℕ) : Type 0 where
  pub honest : d.honest ≡ true
  pub clean : IsClean d.flash
  pub next : d.flash.next b ≡ Some p

-- page p of block b was programmed, with whatever data and tag, and however that ended
abbrev pub ProgramsPage : ℕ → ℕ → Device → Device → Type 0
ProgramsPage b p old new = (bytes : List ℕ) × (tag : List ℕ) × (result : Result (Unit {0}) ProgramFault) × Programs b p bytes tag old new result

-- only erased pages are other than they were
abbrev pub Grows : Flash → Flash → Type 0
Grows old new = (b p : ℕ) → old.page b p ≢ Erased → new.page b p ≡ old.page b p

-- the pages of one block are as they were, erased or lost, and nothing else is other
pub record Shrinks (b : ℕ) (old new : Flash) : Type 0 where
  pub bad : new.bad ≡ old.bad
  pub others : (k l : ℕ) → k ≢ b → new.page k l ≡ old.page k l
  pub inside : (l : ℕ) → (new.page b l ≡ old.page b l) ⊎ (new.page b l ≡ Erased) ⊎ (new.page b l ≡ Uncorrectable)

-- Any number of reads: the flash stays.
pub record OnlyReads (old new : Device) : Type 0 where
  pub lasts : Lasts old new
  pub failures : new.failures ≡ old.failures
  pub changes : new.changes ≡ old.changes
  pub bad : new.flash.bad ≡ old.flash.bad
  pub next : new.flash.next ≡ old.flash.next
  pub page : old.honest ≡ true → new.flash.page ≡ old.flash.page
