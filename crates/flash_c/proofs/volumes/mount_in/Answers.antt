use Rattle.std.proofs.Common.{◌≡◌, ◌∙◌, ◌<ℤ◌, ℤ, pos, true, false, refl, sym, ap, subst, inl, inr, Ok, Err, to_z, of_z, w32, arith, rules}
use Rattle.std.proofs.lemmas.Int.{to_z-of_z}
use Rattle.posix_calls.specs.PageVolumes.{is_stopped}
use Rattle.posix_calls.specs.Volumes.{over_pages}
use Rattle.flash_c.specs.declared.session.Session.{Session}
use Rattle.flash_c.proofs.Mounts.{goes_by, mount_same, mount_sign, mounted_as, not_above, not_zero}
use Rattle.flash_c.proofs.volumes.mount_in.Goals as goal

pub returns-in-Ok-mount_device-clause-fills : goal.returns-in-Ok-mount_device-clause-fills
returns-in-Ok-mount_device-clause-fills c = record {
  mounted = λ done. (c.put.ensures.full, subst (λ (s : Session). is_stopped (over_pages s.volume) ≡ false) (sym c.put.ensures.session) (goes_by c.args.way _ _ _ c.in-Ok-mount_device.ensures.mounted));
  left = λ no. absurd (no refl);
  at_most_0 = search arith;
  busy = λ full. (let two : true ≡ false = sym full ∙ sym c.is_full.ensures.full ∙ c.if-is_full.false in absurd cc);
}

pub returns-in-Ok-mount_device-clause-mounts : goal.returns-in-Ok-mount_device-clause-mounts
returns-in-Ok-mount_device-clause-mounts c empty =
    let session = ap (λ (s : Session). over_pages s.volume) (sym c.put.ensures.session) in
    (Ok c.in-Ok.device, (c.in-Ok.ensures.power, inl (refl, mounted_as c.args.way _ _ _ _ session c.in-Ok-mount_device.ensures.mounted)))

pub returns-in-Err-mount_device-clause-fills : goal.returns-in-Err-mount_device-clause-fills
returns-in-Err-mount_device-clause-fills c =
    let reported = c.in-Err-mount_device.ensures.fault in
    let below : to_z w32 (of_z w32 c.in-Err-mount_device.number) <ℤ pos 0 = mount_sign c.in-Err-mount_device.number reported.fault reported.number_is in
    record {
      mounted = λ zero. absurd (not_zero below zero);
      left = λ no. c.is_full.ensures.same;
      at_most_0 = not_above _ below;
      busy = λ full. (let two : true ≡ false = sym full ∙ sym c.is_full.ensures.full ∙ c.if-is_full.false in absurd cc);
    }

pub returns-in-Err-mount_device-clause-mounts : goal.returns-in-Err-mount_device-clause-mounts
returns-in-Err-mount_device-clause-mounts c empty =
    let reported = c.in-Err-mount_device.ensures.fault in (
      Ok c.in-Ok.device,
      (
        c.in-Ok.ensures.power,
        inr (c.in-Err-mount_device._device, record { fault = reported.fault; number_is = mount_same c.in-Err-mount_device.number reported.fault reported.number_is; reads = reported.reads; why = reported.why }),
      ),
    )

pub returns-in-Err-clause-fills : goal.returns-in-Err-clause-fills
returns-in-Err-clause-fills c =
    let same : to_z w32 (of_z w32 c.open_number.result) ≡ c.open_number.result = to_z-of_z w32 c.open_number.result (search rules) in
    let below : to_z w32 (of_z w32 c.open_number.result) <ℤ pos 0 = subst (λ (n : ℤ). n <ℤ pos 0) (sym same) c.open_number.ensures.negative in
    record {
      mounted = λ zero. absurd (not_zero below zero);
      left = λ no. c.is_full.ensures.same;
      at_most_0 = not_above _ below;
      busy = λ full. (let two : true ≡ false = sym full ∙ sym c.is_full.ensures.full ∙ c.if-is_full.false in absurd cc);
    }

pub returns-in-Err-clause-mounts : goal.returns-in-Err-clause-mounts
returns-in-Err-clause-mounts c empty =
    let same : to_z w32 (of_z w32 c.open_number.result) ≡ c.open_number.result = to_z-of_z w32 c.open_number.result (search rules) in
    (Err c.in-Err.fault, same ∙ c.open_number.ensures.number)
