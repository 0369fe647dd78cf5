use Rattle.std.proofs.Common.{◌≡◌, ◌∙◌, ◌<ℤ◌, ℤ, pos, true, false, refl, sym, ap, subst, inl, inr, Ok, Err, to_z, of_z, w32, arith, rules}
use Rattle.std.proofs.lemmas.Int.{to_z-of_z}
use Rattle.flash_c.specs.declared.salvage_session.SalvageSession.{SalvageSession}
use Rattle.flash_c.proofs.Mounts.{not_above, not_zero}
use Rattle.flash_c.proofs.Salvages.{fault_same, fault_sign, opened_as}
use Rattle.flash_c.proofs.salvaging.flash_salvage_open.Goals as goal

pub returns-in-Ok-open_left-clause-fills : goal.returns-in-Ok-open_left-clause-fills
returns-in-Ok-open_left-clause-fills c = record {
  opened = λ done. c.put.ensures.full;
  left = λ no. absurd (no refl);
  at_most_0 = search arith;
  busy = λ full. (let two : true ≡ false = sym full ∙ sym c.is_full.ensures.full ∙ c.if-is_full.false in absurd cc);
}

pub returns-in-Ok-open_left-clause-opens : goal.returns-in-Ok-open_left-clause-opens
returns-in-Ok-open_left-clause-opens c empty =
    let session = ap (λ (s : SalvageSession). s.salvage) (sym c.put.ensures.session) in
    (Ok c.in-Ok.device, (c.in-Ok.ensures.power, inl (refl, opened_as _ _ _ session c.in-Ok-open_left.ensures.opened)))

pub returns-in-Err-open_left-clause-fills : goal.returns-in-Err-open_left-clause-fills
returns-in-Err-open_left-clause-fills c =
    let reported = c.in-Err-open_left.ensures.fault in
    let below : to_z w32 (of_z w32 c.in-Err-open_left.number) <ℤ pos 0 = fault_sign c.in-Err-open_left.number reported.fault reported.number_is in
    record {
      opened = λ zero. absurd (not_zero below zero);
      left = λ no. c.is_full.ensures.same;
      at_most_0 = not_above _ below;
      busy = λ full. (let two : true ≡ false = sym full ∙ sym c.is_full.ensures.full ∙ c.if-is_full.false in absurd cc);
    }

pub returns-in-Err-open_left-clause-opens : goal.returns-in-Err-open_left-clause-opens
returns-in-Err-open_left-clause-opens c empty =
    let reported = c.in-Err-open_left.ensures.fault in (
      Ok c.in-Ok.device,
      (
        c.in-Ok.ensures.power,
        inr (c.in-Err-open_left._device, record { fault = reported.fault; number_is = fault_same c.in-Err-open_left.number reported.fault reported.number_is; reads = reported.reads; why = reported.why }),
      ),
    )

pub returns-in-Err-clause-fills : goal.returns-in-Err-clause-fills
returns-in-Err-clause-fills c =
    let same : to_z w32 (of_z w32 c.open_number.result) ≡ c.open_number.result = to_z-of_z w32 c.open_number.result (search rules) in
    let below : to_z w32 (of_z w32 c.open_number.result) <ℤ pos 0 = subst (λ (n : ℤ). n <ℤ pos 0) (sym same) c.open_number.ensures.negative in
    record {
      opened = λ zero. absurd (not_zero below zero);
      left = λ no. c.is_full.ensures.same;
      at_most_0 = not_above _ below;
      busy = λ full. (let two : true ≡ false = sym full ∙ sym c.is_full.ensures.full ∙ c.if-is_full.false in absurd cc);
    }

pub returns-in-Err-clause-opens : goal.returns-in-Err-clause-opens
returns-in-Err-clause-opens c empty =
    let same : to_z w32 (of_z w32 c.open_number.result) ≡ c.open_number.result = to_z-of_z w32 c.open_number.result (search rules) in
    (Err c.in-Err.fault, same ∙ c.open_number.ensures.number)
