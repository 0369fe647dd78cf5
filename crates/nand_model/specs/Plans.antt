-- Which calls of a device in memory are cut or fail, and with which fates.
use Rattle.std.specs.Prelude.{ℕ, ◌+◌, ◌-◌, ◌^◌, Bool, true, false, Option, Some, None, Result, Ok, Err, List, [], ◌∷◌, slice_get, map, min, nat_eq, is_some, not, unwrap_or, if◌then◌else◌}
use Rattle.std.specs.Global.{Vec}
use Rattle.nand_model.specs.Flash.{Page, Erased, Written, Uncorrectable}
use Rattle.nand_model.specs.declared.fate.Fate.{Fate}
use Rattle.nand_model.specs.declared.fate.Fate.TheVariants as fates
use Rattle.nand_model.specs.declared.plan.End.{End}
use Rattle.nand_model.specs.declared.plan.End.TheVariants as ends
use Rattle.nand_model.specs.declared.nand.ProgramFault.{ProgramFault}
use Rattle.nand_model.specs.declared.nand.ProgramFault.TheVariants as program_faults
use Rattle.nand_model.specs.declared.nand.EraseFault.{EraseFault}
use Rattle.nand_model.specs.declared.nand.EraseFault.TheVariants as erase_faults

-- What a device counts since it was powered up, the call that is cut with its fates, and the calls that fail with theirs.
pub record Plan : Type 0 where
  pub calls : ℕ
  pub changes : ℕ
  pub fuse : Option (ℕ × List Fate)
  pub failures : List (ℕ × List Fate)

-- the failures of a list, with the fates as lists
abbrev pub listed : List (ℕ × Vec Fate) → List (ℕ × List Fate)
listed failures = map (λ f. (f.0, f.1.items)) failures

-- no call is cut
abbrev pub is_steady : Plan → Bool
is_steady plan = not (is_some plan.fuse)

-- one more, up to the greatest number of 64 bits
abbrev pub totaled : ℕ → ℕ
totaled n = min (n + 1) (2 ^ 64 - 1)

-- the fuse is at this call
abbrev pub is_fused : Option (ℕ × List Fate) → ℕ → Bool
is_fused None call = false
is_fused (Some fuse) call = nat_eq fuse.0 call

abbrev pub fused_fates : Option (ℕ × List Fate) → List Fate
fused_fates None = []
fused_fates (Some fuse) = fuse.1

-- the fates of the first failure that is at this call
abbrev pub failure_at : List (ℕ × List Fate) → ℕ → Option (List Fate)
failure_at [] call = None
failure_at (failure ∷ failures) call = if nat_eq failure.0 call then Some failure.1 else failure_at failures call

-- how a program or an erase of this number ends: the fuse goes before the failures
abbrev pub change_end : Plan → ℕ → End
change_end plan call = if is_fused plan.fuse call then ends.Cut else (if is_some (failure_at plan.failures call) then ends.Failed else ends.Whole)

-- and with which fates
abbrev pub change_fates : Plan → ℕ → List Fate
change_fates plan call = if is_fused plan.fuse call then fused_fates plan.fuse else unwrap_or (failure_at plan.failures call) []

-- how a read or a mark of this number ends: these never fail
abbrev pub other_end : Plan → ℕ → End
other_end plan call = if is_fused plan.fuse call then ends.Cut else ends.Whole

-- a missing fate is Old
abbrev pub fate_at : List Fate → ℕ → Fate
fate_at list p = unwrap_or (slice_get list p) fates.Old

-- the page after a program that was cut or failed
abbrev pub page_by : Fate → List ℕ → List ℕ → Page
page_by fates.Old bytes tag = Erased
page_by fates.New bytes tag = Written bytes tag
page_by fates.Erased bytes tag = Erased
page_by fates.Uncorrectable bytes tag = Uncorrectable

-- the page after a program: a program takes the first fate
abbrev pub programmed : End → List Fate → List ℕ → List ℕ → Page
programmed ends.Whole list bytes tag = Written bytes tag
programmed ends.Failed list bytes tag = page_by (fate_at list 0) bytes tag
programmed ends.Cut list bytes tag = page_by (fate_at list 0) bytes tag

-- a page after an erase that was cut or failed
abbrev pub left_by : Fate → Page → Page
left_by fates.Old page = page
left_by fates.New page = Erased
left_by fates.Erased page = Erased
left_by fates.Uncorrectable page = Uncorrectable

-- page p of a block after an erase: it takes the fate at its place
abbrev pub erased : End → List Fate → ℕ → Page → Page
erased ends.Whole list p page = Erased
erased ends.Failed list p page = left_by (fate_at list p) page
erased ends.Cut list p page = left_by (fate_at list p) page

-- a mark after a cut: the first fate New sets it
abbrev pub mark_by : Fate → Bool → Bool
mark_by fates.Old bad = bad
mark_by fates.New bad = true
mark_by fates.Erased bad = bad
mark_by fates.Uncorrectable bad = bad

-- a mark after it was set
abbrev pub marked : End → List Fate → Bool → Bool
marked ends.Whole list bad = true
marked ends.Failed list bad = true
marked ends.Cut list bad = mark_by (fate_at list 0) bad

abbrev pub program_result : End → Result (Unit {0}) ProgramFault
program_result ends.Whole = Ok tt
program_result ends.Failed = Err program_faults.Failed
program_result ends.Cut = Err program_faults.Gone

abbrev pub erase_result : End → Result (Unit {0}) EraseFault
erase_result ends.Whole = Ok tt
erase_result ends.Failed = Err erase_faults.Failed
erase_result ends.Cut = Err erase_faults.Gone
