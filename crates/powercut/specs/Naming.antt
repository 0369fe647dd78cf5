-- How what is known of a device says which session it is in.
-- From: this project.
use Rattle.std.specs.Prelude.{◌≡◌, ℕ, zero, suc, ◌+◌, ◌-◌, ◌*◌, ◌^◌, ◌<◌, ◌≤◌, true, false, Option, None, Some, List, [], ◌∷◌, length, map, nat_le, min, cond}
use Rattle.nand_model.specs.Calls.{Device}
use Rattle.nand_model.specs.Flash.{Flash, Page, Erased, Written, Uncorrectable}
use Rattle.nand_model.specs.Plans.{Plan}
use Rattle.nand_model.specs.declared.fate.Fate.{Fate}
use Rattle.nand_model.specs.declared.fate.Fate.TheVariants as fates
use Rattle.nand_model.specs.declared.geometry.Geometry.{Geometry}
use Rattle.powercut.specs.Planning.{fuse_call, failing, calls_of, are_counted}
use Rattle.powercut.specs.Running.{Call, AreDone}

-- two numbers as one: 2 ^ x * (2 * y + 1)
abbrev pub pair : ℕ → ℕ → ℕ
pair zero y = 2 * y + 1
pair (suc x) y = 2 * pair x y

-- numbers as one: no two lists have the same
abbrev pub name : List ℕ → ℕ
name [] = 0
name (x ∷ xs) = pair x (name xs)

-- the number of a fate
abbrev pub fate_number : Fate → ℕ
fate_number fates.Old = 0
fate_number fates.New = 1
fate_number fates.Erased = 2
fate_number fates.Uncorrectable = 3

-- the number of a call with its fates
abbrev pub call_number : ℕ × List Fate → ℕ
call_number call = pair call.0 (name (map fate_number call.1))

-- the number of a fuse
abbrev pub fuse_number : Option (ℕ × List Fate) → ℕ
fuse_number None = 0
fuse_number (Some fuse) = call_number fuse

-- the number of a page
abbrev pub page_number : Page → ℕ
page_number Erased = 0
page_number Uncorrectable = 1
page_number (Written bytes tag) = pair (name bytes) (name tag) + 1

-- the number of a next page
abbrev pub next_number : Option ℕ → ℕ
next_number None = 0
next_number (Some p) = p + 1

-- the first so many numbers, the last one first
abbrev pub first_numbers : (ℕ → ℕ) → ℕ → List ℕ
first_numbers number zero = []
first_numbers number (suc n) = number n ∷ first_numbers number n

-- the number of a block of so many pages
abbrev pub block_number : (pages : ℕ) → Flash → ℕ → ℕ
block_number pages flash b = name (cond (flash.bad b) 1 0 ∷ next_number (flash.next b) ∷ first_numbers (λ p. page_number (flash.page b p)) pages)

-- the number of a flash of these sizes
unfoldable pub flash_number : Geometry → Flash → ℕ
flash_number geometry flash = name (first_numbers (block_number geometry.pages flash) geometry.blocks)

-- the counts of calls, failures and cuts, the number of the flash, and the count of reads
abbrev pub Totals : Type 0
Totals = ℕ × ℕ × ℕ × ℕ × ℕ

abbrev pub totals : Device → Totals
totals d = (calls_of d, d.failures, d.cuts, flash_number d.geometry d.flash, d.reads)

-- the number of a session with this fuse and these failures, that began with these counts and this flash: no two have the same
unfoldable pub session_number : Option (ℕ × List Fate) → List (ℕ × List Fate) → Totals → ℕ
session_number fuse failures reported = name (fuse_number fuse ∷ name (map call_number failures) ∷ reported.0 ∷ reported.1 ∷ reported.2 ∷ reported.3 ∷ reported.4 ∷ [])

-- the device as it is, but its cuts count on from a number that names its session
abbrev pub named : ℕ → Device → Device
named number d = record d { cuts = 2 * number + cond d.gone 1 0 }

-- what is known of a device at the begin of a session with this plan
abbrev pub begun : Plan → Device → Device
begun plan d = record d { cuts = 2 * session_number plan.fuse plan.failures (totals d) }

-- how many of these calls were reached
abbrev pub reached : List ℕ → ℕ → ℕ
reached [] calls = 0
reached (call ∷ more) calls = cond (nat_le call calls) 1 0 + reached more calls

-- A device with this plan that began with these counts: its calls are numbered, power is gone from the call of the fuse on, and
-- no more calls failed than were listed and reached.
pub record KeepsPlan (d : Device) (plan : Plan) (reported : Totals) : Type 0 where
  pub fuse : fuse_call plan < 2 ^ 64
  pub made : reported.0 ≤ calls_of d
  pub totaled : d.gone ≡ false → plan.calls ≡ min (calls_of d - reported.0) (2 ^ 64 - 1)
  pub uncut : d.gone ≡ false → 1 ≤ fuse_call plan → calls_of d < reported.0 + fuse_call plan
  pub cut : d.gone ≡ true → (1 ≤ fuse_call plan) × (calls_of d ≡ reported.0 + fuse_call plan)
  pub failures : are_counted (failing plan) ≡ true → d.failures ≤ reported.1 + reached (failing plan) (calls_of d - reported.0)
  pub cuts : d.cuts ≡ reported.2 + cond d.gone 1 0

-- Calls in turn, each of which ended as the plan says, made a device with these counts and this flash what it is.
pub record HasRun (reported : Totals) (plan : Plan) (d : Device) : Type 0 where
  pub start : Device
  pub reported_is : totals start ≡ reported
  pub power : start.gone ≡ false
  pub calls : List Call
  pub done : AreDone plan.fuse plan.failures calls start d
  pub count : calls_of d ≡ reported.0 + length calls
