use Rattle.std.proofs.Common.{inr}
use Rattle.nand_image.specs.ImageState.{device}
use Rattle.flash_program.proofs.OpenedImages.{opens_file}
use Rattle.flash_program.proofs.running.run_image.Goals as goal

pub returns-in-Ok : goal.returns-in-Ok
returns-in-Ok g c = inr (
  device c.in-Ok.device,
  _,
  opens_file g.F.Read.remaining c.args.image c.in-Some.file c.in-Ok.device c.in-Some.is c.in-Ok.ensures.opens,
  c.answer_lines-device.ensures,
)
