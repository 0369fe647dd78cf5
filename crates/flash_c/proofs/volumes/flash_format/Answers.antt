use Rattle.std.proofs.Common.{◌≡◌, ◌≤ℤ◌, ◌∙◌, ℤ, pos, sym, subst, Ok, Err, to_z, of_z, w32, rules}
use Rattle.std.proofs.lemmas.Int.{to_z-of_z}
use Rattle.flash_c.proofs.Formats.{at_most_0}
use Rattle.flash_c.specs.Volumes.{IsFormatted}
use Rattle.flash_c.proofs.volumes.flash_format.Goals as goal

pub returns-in-Ok-clause-formats : goal.returns-in-Ok-clause-formats
returns-in-Ok-clause-formats c =
    let same : to_z w32 (of_z w32 c.format_device.result.1) ≡ c.format_device.result.1 = to_z-of_z w32 c.format_device.result.1 (search rules) in (
      Ok c.in-Ok.device,
      (
        c.in-Ok.ensures.power,
        c.format_device.result.0,
        subst (IsFormatted c.args.spare _ _) (sym same) c.format_device.ensures,
      ),
    )

pub returns-in-Ok-clause-at_most_0 : goal.returns-in-Ok-clause-at_most_0
returns-in-Ok-clause-at_most_0 c =
    let same : to_z w32 (of_z w32 c.format_device.result.1) ≡ c.format_device.result.1 = to_z-of_z w32 c.format_device.result.1 (search rules) in
    subst (λ (n : ℤ). n ≤ℤ pos 0) (sym same) (at_most_0 _ _ _ c.format_device.result.1 c.format_device.ensures)

pub returns-in-Err-clause-formats : goal.returns-in-Err-clause-formats
returns-in-Err-clause-formats c =
    let same : to_z w32 (of_z w32 c.open_number.result) ≡ c.open_number.result = to_z-of_z w32 c.open_number.result (search rules) in
    (Err c.in-Err.fault, same ∙ c.open_number.ensures.number)
