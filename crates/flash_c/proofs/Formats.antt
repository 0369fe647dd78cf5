-- Why a device was not formatted.
use Rattle.std.proofs.Common.{◌≡◌, ◌⊎◌, ◌<◌, ◌≤◌, ◌<ℤ◌, ◌≤ℤ◌, ℕ, ℤ, pos, true, refl, sym, subst, inl, inr, arith}
use Rattle.std.proofs.lemmas.Bool.{cases_lt}
use Rattle.flash_tree.specs.Mount.{bad_blocks}
use Rattle.formatting.specs.declared.fault.FormatFault.{FormatFault}
use Rattle.formatting.specs.declared.fault.FormatFault.TheVariants as formats
use Rattle.nand_model.specs.Calls.{Device}
use Rattle.flash_c.specs.Numbers.{format_number}
use Rattle.flash_c.specs.Volumes.{IsFormatted, WhyNotFormatted}

pub reason : (spare : ℕ) (old new : Device) (fault : FormatFault) → ((fault ≡ formats.Spare) ⊎ (fault ≡ formats.NoMemory) → new ≡ old)
    → (fault ≡ formats.Gone → new.gone ≡ true) → (fault ≡ formats.Worn → spare < bad_blocks new.geometry new.flash) → WhyNotFormatted spare old new fault
reason spare old new formats.Spare left gone worn = left (inl refl)
reason spare old new formats.NoMemory left gone worn = left (inr refl)
reason spare old new formats.Worn left gone worn = worn refl
reason spare old new formats.Gone left gone worn = gone refl

-- enough blocks, where too few are a fault
pub sufficient : (blocks least : ℕ) → (blocks < least → ⊥) → least ≤ blocks
sufficient blocks least within_limit = elim (cases_lt blocks least) [
  | inl less ↦ absurd (within_limit less)
  | inr more ↦ omega arith
]

format_below : (fault : FormatFault) → format_number fault <ℤ pos 0
format_below formats.Spare = search arith
format_below formats.NoMemory = search arith
format_below formats.Worn = search arith
format_below formats.Gone = search arith

-- the number of a format is 0 or below
pub at_most_0 : (spare : ℕ) (old new : Device) (number : ℤ) → IsFormatted spare old new number → number ≤ℤ pos 0
at_most_0 spare old new number is = elim is.ends [
  | inl done ↦ search (arith, done.0)
  | inr not ↦ (let below : number <ℤ pos 0 = subst (λ (n : ℤ). n <ℤ pos 0) (sym not.number_is) (format_below not.fault) in search (arith, below))
]
