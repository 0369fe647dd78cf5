-- What sets a page or a mark of a device from without, and what a cut leaves that comes before anything was done.
use Rattle.std.specs.Prelude.{◌≡◌, ◌≢◌, ℕ, ◌+◌, true, false, None}
use Rattle.nand_model.specs.Flash.{Page}
use Rattle.nand_model.specs.Calls.{Device, Lasts, Goes}

-- No call was made: the sizes, the power and the counts stay.
pub record Rests (old new : Device) : Type 0 where
  pub geometry : new.geometry ≡ old.geometry
  pub gone : new.gone ≡ old.gone
  pub honest : new.honest ≡ old.honest
  pub steady : new.steady ≡ old.steady
  pub cuts : new.cuts ≡ old.cuts
  pub failures : new.failures ≡ old.failures
  pub changes : new.changes ≡ old.changes
  pub reads : new.reads ≡ old.reads

-- Page p of block b is another, and the block has no next page. Nothing else changes.
pub record PutsPage (b p : ℕ) (page : Page) (old new : Device) : Type 0 where
  pub rests : Rests old new
  pub bad : new.flash.bad ≡ old.flash.bad
  pub next : new.flash.next b ≡ None
  pub other_nexts : (k : ℕ) → k ≢ b → new.flash.next k ≡ old.flash.next k
  pub here : new.flash.page b p ≡ page
  pub same_block : (l : ℕ) → l ≢ p → new.flash.page b l ≡ old.flash.page b l
  pub other_blocks : (k l : ℕ) → k ≢ b → new.flash.page k l ≡ old.flash.page k l

-- Block b is marked bad. Nothing else changes.
pub record PutsMark (b : ℕ) (old new : Device) : Type 0 where
  pub rests : Rests old new
  pub bad : new.flash.bad b ≡ true
  pub other_bads : (k : ℕ) → k ≢ b → new.flash.bad k ≡ old.flash.bad k
  pub next : new.flash.next ≡ old.flash.next
  pub page : new.flash.page ≡ old.flash.page

-- the device as one whose calls may be cut
abbrev pub unsteady : Device → Device
unsteady device = record device { steady = false }

-- A program or an erase in block b is cut and leaves the old pages: the block has no next page, and else the flash stays.
pub record CutsChange (b : ℕ) (old new : Device) : Type 0 where
  pub lasts : Lasts (unsteady old) (unsteady new)
  pub goes : Goes old new
  pub changes : new.changes ≡ old.changes + 1
  pub reads : new.reads ≡ old.reads
  pub bad : new.flash.bad ≡ old.flash.bad
  pub next : new.flash.next b ≡ None
  pub other_nexts : (k : ℕ) → k ≢ b → new.flash.next k ≡ old.flash.next k
  pub page : new.flash.page ≡ old.flash.page

-- A mark is cut and isn't set: the flash stays.
pub record CutsMark (old new : Device) : Type 0 where
  pub lasts : Lasts (unsteady old) (unsteady new)
  pub goes : Goes old new
  pub changes : new.changes ≡ old.changes + 1
  pub reads : new.reads ≡ old.reads
  pub flash : new.flash ≡ old.flash
