use Rattle.std.proofs.Common.{inr, refl, ap, ◌∙◌}
use Rattle.nand_image.specs.ImageState.{device}
use Rattle.flash_program.proofs.creating.make_image.Goals as goal

pub returns-in-Ok-create_image : goal.returns-in-Ok-create_image
returns-in-Ok-create_image g c =
    let made = c.in-Ok-create_image.ensures in
    let sizes = c.in-Ok.ensures.ok in
    inr (
      device c.in-Ok-create_image.device,
      _,
      record {
        bytes_are = ap (λ d. d.bytes) made.geometry ∙ sizes.0;
        pages_are = ap (λ d. d.pages) made.geometry ∙ sizes.1;
        blocks_are = ap (λ d. d.blocks) made.geometry ∙ sizes.2;
      },
      record { honest = refl; has_power = made.gone; blank = made.blank; counts = made.counts },
      c.format_device-device.ensures,
    )
