-- What the calls of the tests keep of their devices.
use Rattle.std.specs.Prelude.{◌≡◌, ◌+◌, ℕ, Bool, false, List, Result, Ok}
use Rattle.std.proofs.Common.{ap, sym, subst, ◌∙◌}
use Rattle.nand_model.specs.Calls.{Device, Reads, Programs, ProgramNext, Erases, EraseNext}
use Rattle.nand_model.specs.Changes.{PowersUp}
use Rattle.device_tests.specs.SmallDevices.{IsSmall, TakesPage}
use Rattle.nand_model.specs.declared.geometry.Geometry.{Geometry}
use Rattle.nand_model.specs.declared.nand.PageKind.{PageKind}
use Rattle.nand_model.specs.declared.nand.Gone.{Gone}
use Rattle.nand_model.specs.declared.nand.ProgramFault.{ProgramFault}
use Rattle.nand_model.specs.declared.nand.EraseFault.{EraseFault}

-- a device with the same sizes and marks is as small
pub small_committed : (old new : Device) → IsSmall old → new.geometry ≡ old.geometry → new.flash.bad ≡ old.flash.bad → IsSmall new
small_committed old new small geometry bad = record {
  bytes = ap (λ (g : Geometry). g.bytes) geometry ∙ small.bytes;
  pages = ap (λ (g : Geometry). g.pages) geometry ∙ small.pages;
  blocks = ap (λ (g : Geometry). g.blocks) geometry ∙ small.blocks;
  good = ap (λ (f : ℕ → Bool). f 1) bad ∙ small.good;
}

pub small_same : (old new : Device) → IsSmall old → new ≡ old → IsSmall new
small_same old new small same = subst IsSmall (sym same) small

pub open_same : (old new : Device) → new ≡ old → (p : ℕ) → TakesPage p old → TakesPage p new
open_same old new same p was = subst (TakesPage p) (sym same) was

pub small_read : (old new : Device) (result : Result PageKind Gone) → IsSmall old → Reads old new result → IsSmall new
small_read old new result small does = small_committed old new small does.lasts.geometry does.bad

pub small_up : (old new : Device) → IsSmall old → PowersUp old new → IsSmall new
small_up old new small up = small_committed old new small up.geometry up.bad

pub small_program : (b p : ℕ) (bytes tag : List ℕ) (old new : Device) (result : Result (Unit {0}) ProgramFault) → IsSmall old → Programs b p bytes tag old new result → IsSmall new
small_program b p bytes tag old new result small does = small_committed old new small does.lasts.geometry does.bad

pub small_erase : (b : ℕ) (old new : Device) (result : Result (Unit {0}) EraseFault) → IsSmall old → Erases b old new result → IsSmall new
small_erase b old new result small does = small_committed old new small does.lasts.geometry does.bad

-- after an erase that is done the first page of the block is the next
pub open_erased : (old new : Device) (result : Result (Unit {0}) EraseFault) (done : Unit {0}) → result ≡ Ok done → IsSmall old → Erases 1 old new result → TakesPage 0 new
open_erased old new result done ok small does = record {
  small = small_erase 1 old new result small does;
  next = subst (λ r. EraseNext old.gone r (new.flash.next 1)) ok does.next;
}

-- after a program that is done the page behind it is the next
pub open_programmed : (p : ℕ) (bytes tag : List ℕ) (old new : Device) (result : Result (Unit {0}) ProgramFault) (done : Unit {0}) → result ≡ Ok done → IsSmall old → Programs 1 p bytes tag old new result → TakesPage (p + 1) new
open_programmed p bytes tag old new result done ok small does = record {
  small = small_program 1 p bytes tag old new result small does;
  next = subst (λ r. ProgramNext old.gone p r (new.flash.next 1)) ok does.next;
}

pub ruleset small_laws = (small_same, open_same, small_read, small_up, small_program, small_erase)

-- a fuse leaves it
pub open_unsteady : (page : ℕ) (d : Device) → TakesPage page d → TakesPage page (record d { steady = false })
open_unsteady page d is = record {
  small = record { bytes = is.small.bytes; pages = is.small.pages; blocks = is.small.blocks; good = is.small.good };
  next = is.next;
}
