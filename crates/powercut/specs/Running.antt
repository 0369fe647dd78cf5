-- The calls of a session in turn, each of which ends as the plan of the session says.
-- From: this project.
use Rattle.std.specs.Prelude.{◌≡◌, ◌<◌, ℕ, ◌+◌, ◌-◌, ◌^◌, false, Option, List, [], ◌∷◌, length, min, Result}
use Rattle.nand_model.specs.Calls.{Device, Reads, Programs, Erases, Marks}
use Rattle.nand_model.specs.Planned.{ReadsAsPlanned, ProgramsAsPlanned, ErasesAsPlanned, MarksAsPlanned}
use Rattle.nand_model.specs.Plans.{Plan}
use Rattle.nand_model.specs.declared.fate.Fate.{Fate}
use Rattle.nand_model.specs.declared.nand.PageKind.{PageKind}
use Rattle.nand_model.specs.declared.nand.Gone.{Gone}
use Rattle.nand_model.specs.declared.nand.ProgramFault.{ProgramFault}
use Rattle.nand_model.specs.declared.nand.EraseFault.{EraseFault}
use Rattle.powercut.specs.Planning.{calls_of}

-- a call of a device, with what it answered
pub data Call : Type 0 where
  Reading : (result : Result PageKind Gone) → Call
  Programming : (b p : ℕ) (bytes tag : List ℕ) (result : Result (Unit {0}) ProgramFault) → Call
  Erasing : (b : ℕ) (result : Result (Unit {0}) EraseFault) → Call
  Marking : (b : ℕ) (result : Result (Unit {0}) Gone) → Call

-- The call does what each device does. It is cut where the fuse is at it, and leaves what the fates of the fuse say; a program or an erase
-- fails where a failure is listed at it, and leaves what the fates of that say; else it is done.
abbrev pub Does : Plan → Call → Device → Device → Type 0
Does plan (Reading result) old new = Reads old new result × ReadsAsPlanned plan old result
Does plan (Programming b p bytes tag result) old new = Programs b p bytes tag old new result × ProgramsAsPlanned b p bytes tag plan old new result
Does plan (Erasing b result) old new = Erases b old new result × ErasesAsPlanned b plan old new result
Does plan (Marking b result) old new = Marks b old new result × MarksAsPlanned b plan old new result

-- the plan at the call after so many
abbrev pub plan_after : Option (ℕ × List Fate) → List (ℕ × List Fate) → ℕ → Plan
plan_after fuse failures calls = record { calls = min calls (2 ^ 64 - 1); changes = 0; fuse = fuse; failures = failures }

-- Calls in turn, the last one first, that make the one device the other: each is made with power, and ends by this fuse and these failures.
abbrev pub AreDone : Option (ℕ × List Fate) → List (ℕ × List Fate) → List Call → (first last : Device) → Type 0
AreDone fuse failures [] first last = last ≡ first
AreDone fuse failures (call ∷ calls) first last =
    (before : Device) × AreDone fuse failures calls first before × (before.gone ≡ false) × Does (plan_after fuse failures (length calls)) call before last

-- the one device is as the other, of whose pages and marks those within the sizes count
pub record IsAs (first start : Device) : Type 0 where
  pub geometry : start.geometry ≡ first.geometry
  pub honest : start.honest ≡ first.honest
  pub bad : (b : ℕ) → b < first.geometry.blocks → start.flash.bad b ≡ first.flash.bad b
  pub next : (b : ℕ) → b < first.geometry.blocks → start.flash.next b ≡ first.flash.next b
  pub page : (b p : ℕ) → b < first.geometry.blocks → p < first.geometry.pages → start.flash.page b p ≡ first.flash.page b p
  pub cuts : start.cuts ≡ first.cuts
  pub failures : start.failures ≡ first.failures
  pub changes : start.changes ≡ first.changes
  pub reads : start.reads ≡ first.reads

-- What a session does to a device, from a power-up with this plan to its end: calls in turn make it what it is at the end, as many as it
-- counts, and each ends as the plan says.
pub record RunsAsPlanned (plan : Plan) (first last : Device) : Type 0 where
  pub start : Device
  pub is_as : IsAs first start
  pub power : start.gone ≡ false
  pub calls : List Call
  pub done : AreDone plan.fuse plan.failures calls start last
  pub count : calls_of last ≡ calls_of first + length calls
