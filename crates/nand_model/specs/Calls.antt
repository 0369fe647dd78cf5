-- What the calls of a device do to it.
use Rattle.std.specs.Prelude.{◌≡◌, ◌≢◌, ◌⊎◌, ◌<◌, ◌≤◌, ℕ, ◌+◌, Bool, true, false, Option, Some, None, Result, Ok, Err, List}
use Rattle.nand_model.specs.Flash.{Flash, Page, Erased, Written, Uncorrectable}
use Rattle.nand_model.specs.declared.geometry.Geometry.{Geometry}
use Rattle.nand_model.specs.declared.nand.PageKind.{PageKind}
use Rattle.nand_model.specs.declared.nand.PageKind.TheVariants as kinds
use Rattle.nand_model.specs.declared.nand.Gone.{Gone}
use Rattle.nand_model.specs.declared.nand.ProgramFault.{ProgramFault}
use Rattle.nand_model.specs.declared.nand.ProgramFault.TheVariants as program_faults
use Rattle.nand_model.specs.declared.nand.EraseFault.{EraseFault}
use Rattle.nand_model.specs.declared.nand.EraseFault.TheVariants as erase_faults

-- What is known of a device at one moment. It counts since it was made, without end. Where it is steady no call of it is cut
-- until the next power-up. Where it is seen as honest only if something of its flash is so, honest is that, and honest_itself what it
-- is without that; else both are the same.
pub record Device : Type 0 where
  pub geometry : Geometry
  pub flash : Flash
  pub gone : Bool
  pub honest : Bool
  pub honest_itself : Bool
  pub steady : Bool
  pub cuts : ℕ
  pub failures : ℕ
  pub changes : ℕ
  pub reads : ℕ

-- What every call keeps, and so any number of them: the geometry, the honesty, marks that are set, and the whole of a
-- device that is gone. No count falls. Only a cut makes a device gone, and it does, so there is one cut at most.
pub record Lasts (old new : Device) : Type 0 where
  pub geometry : new.geometry ≡ old.geometry
  pub honest : new.honest ≡ old.honest
  pub honest_itself : new.honest_itself ≡ old.honest_itself
  pub cuts : old.cuts ≤ new.cuts
  pub failures : old.failures ≤ new.failures
  pub changes : old.changes ≤ new.changes
  pub reads : old.reads ≤ new.reads
  pub marks : (b : ℕ) → old.flash.bad b ≡ true → new.flash.bad b ≡ true
  pub gone : old.gone ≡ true → new ≡ old
  pub goes : new.gone ≡ true → (old.gone ≡ true) ⊎ (old.cuts < new.cuts)
  pub ends : old.cuts < new.cuts → new.gone ≡ true
  pub once : new.cuts ≤ old.cuts + 1
  pub steady : old.steady ≡ true → (new.steady ≡ true) × (new.cuts ≡ old.cuts)

-- the call did what it is for
pub record Completes (old new : Device) : Type 0 where
  pub was : old.gone ≡ false
  pub is : new.gone ≡ false
  pub cuts : new.cuts ≡ old.cuts
  pub failures : new.failures ≡ old.failures

-- the device reported a failure
pub record Fails (old new : Device) : Type 0 where
  pub was : old.gone ≡ false
  pub is : new.gone ≡ false
  pub cuts : new.cuts ≡ old.cuts
  pub failures : new.failures ≡ old.failures + 1

-- the call was cut, or the device was gone before it
pub record Goes (old new : Device) : Type 0 where
  pub is : new.gone ≡ true
  pub cuts : old.gone ≡ false → new.cuts ≡ old.cuts + 1
  pub failures : new.failures ≡ old.failures

abbrev pub ReadEnds : Device → Device → Result PageKind Gone → Type 0
ReadEnds old new (Ok kind) = Completes old new
ReadEnds old new (Err gone) = Goes old new

-- what a read does to the device: it counts it, and changes nothing
pub record Reads (old new : Device) (result : Result PageKind Gone) : Type 0 where
  pub lasts : Lasts old new
  pub ends : ReadEnds old new result
  pub reads : old.gone ≡ false → new.reads ≡ old.reads + 1
  pub changes : new.changes ≡ old.changes
  pub bad : new.flash.bad ≡ old.flash.bad
  pub next : new.flash.next ≡ old.flash.next
  pub page : old.honest ≡ true → new.flash.page ≡ old.flash.page

-- a page as a read reports it
abbrev pub kind_of : Page → PageKind
kind_of Erased = kinds.Erased
kind_of (Written bytes tag) = kinds.Written
kind_of Uncorrectable = kinds.Uncorrectable

-- the data of a page that is written, else those before
abbrev pub bytes_of : Page → List ℕ → List ℕ
bytes_of Erased was = was
bytes_of (Written bytes tag) was = bytes
bytes_of Uncorrectable was = was

-- the tag of a page that is written, else the one before
abbrev pub tag_of : Page → List ℕ → List ℕ
tag_of Erased was = was
tag_of (Written bytes tag) was = tag
tag_of Uncorrectable was = was

-- an honest device returns what the page is
abbrev pub ReadReports : Bool → Page → Result PageKind Gone → Type 0
ReadReports honest page (Ok kind) = honest ≡ true → kind ≡ kind_of page
ReadReports honest page (Err gone) = Unit {0}

-- A buffer after a read: it is filled only where the page was written, and by an honest device with what is reported.
abbrev pub Fills : Bool → List ℕ → Result PageKind Gone → List ℕ → List ℕ → Type 0
Fills honest reported (Ok kinds.Written) old new = honest ≡ true → new ≡ reported
Fills honest reported (Ok kinds.Erased) old new = new ≡ old
Fills honest reported (Ok kinds.Uncorrectable) old new = new ≡ old
Fills honest reported (Err gone) old new = new ≡ old

-- The data of a page that was read: of a page that was written an honest device returns it. In all other cases the buffer may hold anything.
abbrev pub FillsData : Bool → List ℕ → Result PageKind Gone → List ℕ → Type 0
FillsData honest reported (Ok kinds.Written) new = honest ≡ true → new ≡ reported
FillsData honest reported (Ok kinds.Erased) new = Unit {0}
FillsData honest reported (Ok kinds.Uncorrectable) new = Unit {0}
FillsData honest reported (Err gone) new = Unit {0}

abbrev pub ProgramEnds : Device → Device → Result (Unit {0}) ProgramFault → Type 0
ProgramEnds old new (Ok done) = Completes old new
ProgramEnds old new (Err program_faults.Failed) = Fails old new
ProgramEnds old new (Err program_faults.Gone) = Goes old new

-- The next page of a block whose page p was programmed: p + 1, and after a cut or a failure none.
abbrev pub ProgramNext : Bool → ℕ → Result (Unit {0}) ProgramFault → Option ℕ → Type 0
ProgramNext was_gone p (Ok done) next = next ≡ Some (p + 1)
ProgramNext was_gone p (Err fault) next = was_gone ≡ false → next ≡ None

-- what a program leaves of its page: all that was wanted, and after a cut or a failure that, nothing, or a loss
abbrev pub ProgramLeaves : List ℕ → List ℕ → Result (Unit {0}) ProgramFault → Page → Type 0
ProgramLeaves bytes tag (Ok done) page = page ≡ Written bytes tag
ProgramLeaves bytes tag (Err fault) page = (page ≡ Erased) ⊎ (page ≡ Written bytes tag) ⊎ (page ≡ Uncorrectable)

-- What a program of page p of block b does. Of an honest device the pages are known too.
pub record Programs (b p : ℕ) (bytes tag : List ℕ) (old new : Device) (result : Result (Unit {0}) ProgramFault) : Type 0 where
  pub lasts : Lasts old new
  pub ends : ProgramEnds old new result
  pub changes : old.gone ≡ false → new.changes ≡ old.changes + 1
  pub reads : new.reads ≡ old.reads
  pub bad : new.flash.bad ≡ old.flash.bad
  pub next : ProgramNext old.gone p result (new.flash.next b)
  pub other_nexts : (k : ℕ) → k ≢ b → new.flash.next k ≡ old.flash.next k
  pub page : old.honest ≡ true → ProgramLeaves bytes tag result (new.flash.page b p)
  pub same_block : old.honest ≡ true → (l : ℕ) → l ≢ p → new.flash.page b l ≡ old.flash.page b l
  pub other_blocks : old.honest ≡ true → (k l : ℕ) → k ≢ b → new.flash.page k l ≡ old.flash.page k l

abbrev pub EraseEnds : Device → Device → Result (Unit {0}) EraseFault → Type 0
EraseEnds old new (Ok done) = Completes old new
EraseEnds old new (Err erase_faults.Failed) = Fails old new
EraseEnds old new (Err erase_faults.Gone) = Goes old new

-- The next page of a block that was erased: 0, and after a cut or a failure none.
abbrev pub EraseNext : Bool → Result (Unit {0}) EraseFault → Option ℕ → Type 0
EraseNext was_gone (Ok done) next = next ≡ Some 0
EraseNext was_gone (Err fault) next = was_gone ≡ false → next ≡ None

-- what an erase leaves of a page of its block: erased, and after a cut or a failure that, as it was, or a loss
abbrev pub EraseLeaves : Result (Unit {0}) EraseFault → Page → Page → Type 0
EraseLeaves (Ok done) old new = new ≡ Erased
EraseLeaves (Err fault) old new = (new ≡ old) ⊎ (new ≡ Erased) ⊎ (new ≡ Uncorrectable)

-- What an erase of block b does. Of an honest device the pages are known too.
pub record Erases (b : ℕ) (old new : Device) (result : Result (Unit {0}) EraseFault) : Type 0 where
  pub lasts : Lasts old new
  pub ends : EraseEnds old new result
  pub changes : old.gone ≡ false → new.changes ≡ old.changes + 1
  pub reads : new.reads ≡ old.reads
  pub bad : new.flash.bad ≡ old.flash.bad
  pub next : EraseNext old.gone result (new.flash.next b)
  pub other_nexts : (k : ℕ) → k ≢ b → new.flash.next k ≡ old.flash.next k
  pub pages : old.honest ≡ true → (l : ℕ) → EraseLeaves result (old.flash.page b l) (new.flash.page b l)
  pub other_blocks : old.honest ≡ true → (k l : ℕ) → k ≢ b → new.flash.page k l ≡ old.flash.page k l

abbrev pub MarkEnds : Device → Device → Result (Unit {0}) Gone → Type 0
MarkEnds old new (Ok done) = Completes old new
MarkEnds old new (Err gone) = Goes old new

-- a mark is set, and after a cut it is or isn't
abbrev pub MarkLeaves : Result (Unit {0}) Gone → Bool → Bool → Type 0
MarkLeaves (Ok done) old new = new ≡ true
MarkLeaves (Err gone) old new = (new ≡ old) ⊎ (new ≡ true)

-- what marking block b bad does
pub record Marks (b : ℕ) (old new : Device) (result : Result (Unit {0}) Gone) : Type 0 where
  pub lasts : Lasts old new
  pub ends : MarkEnds old new result
  pub changes : old.gone ≡ false → new.changes ≡ old.changes + 1
  pub reads : new.reads ≡ old.reads
  pub bad : MarkLeaves result (old.flash.bad b) (new.flash.bad b)
  pub other_bads : (k : ℕ) → k ≢ b → new.flash.bad k ≡ old.flash.bad k
  pub next : new.flash.next ≡ old.flash.next
  pub page : old.honest ≡ true → new.flash.page ≡ old.flash.page
