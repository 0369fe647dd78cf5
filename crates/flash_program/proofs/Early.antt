-- Why a new device in memory is not formatted.
use Rattle.std.proofs.Common.{◌≡◌, true, false, refl, sym, ◌∙◌, inl, inr, arith}
use Rattle.std.proofs.lemmas.Bool.{true≢false}
use Rattle.formatting.specs.declared.fault.FormatFault.{FormatFault}
use Rattle.formatting.specs.declared.fault.FormatFault.TheVariants as formats
use Rattle.nand_model.specs.Calls.{Device, Lasts}
use Rattle.flash_program.specs.Sessions.{IsEarly}
use Rattle.flash_program.specs.declared.fault.ProgramFault.TheVariants as faults

module _ (old new : Device) (had : old.gone ≡ false) (steady : old.steady ≡ true) (lasts : Lasts old new) where
  -- a steady device keeps its power
  has_power : new.gone ≡ true → ⊥
  has_power gone = elim (lasts.goes gone) [
    | inl was ↦ absurd (true≢false (sym was ∙ had))
    | inr more ↦ let same = (lasts.steady steady).1 in absurd (omega (arith, more, same))
  ]

  pub early : (fault : FormatFault) → (fault ≡ formats.Spare → ⊥) → (fault ≡ formats.Gone → new.gone ≡ true) → IsEarly (faults.Format fault)
  early formats.Spare sufficient gone = absurd (sufficient refl)
  early formats.NoMemory sufficient gone = tt
  early formats.Worn sufficient gone = tt
  early formats.Gone sufficient gone = absurd (has_power (gone refl))
