use Rattle.std.proofs.Common.{◌∙◌, List, ℕ, length, Ok, Err, ap, sym, refl, w32, w64}
use Rattle.std.proofs.lemmas.Int.{to_z-of_z}
use Rattle.flash_c.specs.Numbers.{signed}
use Rattle.flash_c.specs.Salvaged.{front_filled}
use Rattle.flash_c.proofs.asking.orphans_left.Goals as goal

pub returns-in-Ok : goal.returns-in-Ok
returns-in-Ok g c = (
  Ok c.in-Ok.list.items,
  record { lookups = c.in-Ok.ensures.lookups; says = c.in-Ok.ensures.orphans; why = tt },
  to_z-of_z w64 c.signed.result (search (c.signed.type_inv)) ∙ c.signed.ensures ∙ ap (λ (n : ℕ). signed n) (c.len.ensures ∙ sym c.deref.ensures.len ∙ ap length c.deref.ensures.value),
  c.put_objects.ensures ∙ ap (λ (list : List ℕ). front_filled c.args.objects.now list) c.deref.ensures.value,
)

pub returns-in-Err : goal.returns-in-Err
returns-in-Err g c = (
  Err c.in-Err.fault,
  record { lookups = c.in-Err.ensures.lookups; says = λ z is. tt; why = c.in-Err.ensures.fault },
  to_z-of_z w64 c.from.result (search (c.from.type_inv)) ∙ c.from.ensures ∙ to_z-of_z w32 c.salvage_number.result (search (c.salvage_number.type_inv))
      ∙ c.salvage_number.ensures.number,
  refl,
)
