-- What the calls of a device in memory do beside what each device does: its plan says how they end.
use Rattle.std.specs.Prelude.{◌≡◌, ◌<◌, ◌↔◌, ℕ, Bool, true, false, List, Result, IsErr, if◌then◌else◌}
use Rattle.nand_model.specs.Calls.{Device}
use Rattle.nand_model.specs.Plans.{Plan, totaled, is_fused, change_end, change_fates, other_end, programmed, erased, marked, program_result, erase_result}
use Rattle.nand_model.specs.declared.nand.PageKind.{PageKind}
use Rattle.nand_model.specs.declared.nand.Gone.{Gone}
use Rattle.nand_model.specs.declared.nand.ProgramFault.{ProgramFault}
use Rattle.nand_model.specs.declared.nand.EraseFault.{EraseFault}

-- the number of the next call
abbrev pub next_call : Plan → ℕ
next_call plan = totaled plan.calls

-- a read came
abbrev pub after_read : Plan → Plan
after_read plan = record plan { calls = next_call plan }

-- a program, an erase or a mark came, as a change only where the device had power
abbrev pub after_change : Bool → Plan → Plan
after_change gone plan = record plan { calls = next_call plan; changes = if gone then plan.changes else totaled plan.changes }

-- a read of a device with power is cut exactly where the fuse is at it
abbrev pub ReadsAsPlanned : Plan → Device → Result PageKind Gone → Type 0
ReadsAsPlanned plan old result = old.gone ≡ false → (IsErr result ↔ (is_fused plan.fuse (next_call plan) ≡ true))

-- a program of a device with power ends as planned, and leaves of its page what the fates say
pub record ProgramsAsPlanned (b p : ℕ) (bytes tag : List ℕ) (plan : Plan) (old new : Device) (result : Result (Unit {0}) ProgramFault) : Type 0 where
  pub ends : old.gone ≡ false → result ≡ program_result (change_end plan (next_call plan))
  pub page : old.gone ≡ false → new.flash.page b p ≡ programmed (change_end plan (next_call plan)) (change_fates plan (next_call plan)) bytes tag

-- an erase of a device with power ends as planned, and leaves of each page what the fates say
pub record ErasesAsPlanned (b : ℕ) (plan : Plan) (old new : Device) (result : Result (Unit {0}) EraseFault) : Type 0 where
  pub ends : old.gone ≡ false → result ≡ erase_result (change_end plan (next_call plan))
  pub pages : old.gone ≡ false → (l : ℕ) → l < old.geometry.pages
      → new.flash.page b l ≡ erased (change_end plan (next_call plan)) (change_fates plan (next_call plan)) l (old.flash.page b l)

-- a mark on a device with power is cut exactly where the fuse is at it, and then set as the fates say
pub record MarksAsPlanned (b : ℕ) (plan : Plan) (old new : Device) (result : Result (Unit {0}) Gone) : Type 0 where
  pub ends : old.gone ≡ false → IsErr result ↔ (is_fused plan.fuse (next_call plan) ≡ true)
  pub mark : old.gone ≡ false → new.flash.bad b ≡ marked (other_end plan (next_call plan)) (change_fates plan (next_call plan)) (old.flash.bad b)
