-- The numbers of a salvage's faults, and what a salvage in a slot was wanted.
use Rattle.std.proofs.Common.{◌≡◌, ◌<ℤ◌, ◌∙◌, ℤ, pos, true, false, Option, Result, refl, sym, ap, subst, to_z, of_z, w32, arith}
use Rattle.nand_model.specs.Calls.{Device}
use Rattle.nand_model.specs.declared.nand.Nand.{Ghosts}
use Rattle.pages.specs.State.{PagesState}
use Rattle.salvage.specs.StateOf.{state}
use Rattle.salvage.specs.declared.fault.SalvageFault.{SalvageFault}
use Rattle.salvage.specs.declared.fault.SalvageFault.TheVariants as salvages
use Rattle.salvage.specs.declared.salvage.Salvage.{Salvage}
use Rattle.salvage.specs.declared.reported.Listing.{Listing}
use Rattle.salvage.specs.declared.reported.Part.{Part}
use Rattle.posix_profile.specs.declared.reply.Errno.TheVariants as errors
use Rattle.flash_c.specs.Numbers.{error_number, salvage_number}
use Rattle.flash_c.specs.SalvageLending.{with_session}
use Rattle.flash_c.specs.SalvageSlots.{IssuesIn, IsOpened}
use Rattle.flash_c.specs.Salvaging.{EndsList, EndsRead, ObjectList, ObjectRead}
use Rattle.flash_c.specs.declared.salvage_session.SalvageSession.{SalvageSession}
use Rattle.flash_c.specs.declared.salvage_slot.SalvageSlot.{SalvageSlot}

fault_fits : (fault : SalvageFault) → to_z w32 (of_z w32 (salvage_number fault)) ≡ salvage_number fault
fault_fits salvages.NoMemory = refl
fault_fits salvages.Gone = refl

fault_below : (fault : SalvageFault) → salvage_number fault <ℤ pos 0
fault_below salvages.NoMemory = search arith
fault_below salvages.Gone = search arith

-- the number of a fault, returned as a number of 32 bits
pub fault_same : (number : ℤ) (fault : SalvageFault) → number ≡ salvage_number fault → to_z w32 (of_z w32 number) ≡ salvage_number fault
fault_same number fault is = ap (λ (n : ℤ). to_z w32 (of_z w32 n)) is ∙ fault_fits fault

pub fault_sign : (number : ℤ) (fault : SalvageFault) → number ≡ salvage_number fault → to_z w32 (of_z w32 number) <ℤ pos 0
fault_sign number fault is = subst (λ (n : ℤ). n <ℤ pos 0) (sym (fault_same number fault is)) (fault_below fault)

pub opened_as : {N : Type 0} {nand : Ghosts N} (device : Device) (s t : Salvage N nand) → s ≡ t → IsOpened device s → IsOpened device t
opened_as device s t same = subst (IsOpened device) same

-- the salvage of a full slot was lent, and called
pub asked_in_place : (Issues : PagesState → PagesState → Type 0) (Stays : Type 0) (old seen : SalvageSlot) (lent left : SalvageSession) (number : ℤ)
    → old.full ≡ true → seen ≡ old → lent ≡ seen.session → Issues (state lent.salvage) (state left.salvage) → IssuesIn Issues Stays old number (with_session seen left)
asked_in_place Issues Stays old seen lent left number full same lends does =
    let first : lent ≡ old.session = lends ∙ ap (λ (s : SalvageSlot). s.session) same in
    record {
      full = ap (λ (s : SalvageSlot). s.full) same;
      issued = λ yes. subst (λ (s : SalvageSession). Issues (state s.salvage) (state left.salvage)) first does;
      empty = λ no. (let two : true ≡ false = sym full ∙ no in absurd cc);
    }

-- an empty slot was left
pub empty_left : (Issues : PagesState → PagesState → Type 0) (Stays : Type 0) (old seen : SalvageSlot) (number : ℤ) → old.full ≡ false → seen ≡ old
    → number ≡ error_number errors.EINVAL → Stays → IssuesIn Issues Stays old number seen
empty_left Issues Stays old seen number empty same refused stays = record {
  full = ap (λ (s : SalvageSlot). s.full) same;
  issued = λ yes. (let two : true ≡ false = sym yes ∙ empty in absurd cc);
  empty = λ _. (refused, stays, same);
}

-- what the salvage listed or read, by what is known of it
pub list_ends : (l : ObjectList) (mid new : PagesState) (reported known : Result (Option Listing) SalvageFault) → reported ≡ known → EndsList l mid known new → EndsList l mid reported new
list_ends l mid new reported known same = subst (λ t. EndsList l mid t new) (sym same)

pub read_ends : (r : ObjectRead) (mid new : PagesState) (reported known : Result (Option Part) SalvageFault) → reported ≡ known → EndsRead r mid known new → EndsRead r mid reported new
read_ends r mid new reported known same = subst (λ t. EndsRead r mid t new) (sym same)
