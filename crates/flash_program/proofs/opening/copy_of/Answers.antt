use Rattle.nand_image.specs.ImageState.{device}
use Rattle.flash_program.proofs.OpenedImages.{opens_file}
use Rattle.flash_program.proofs.opening.copy_of.Goals as goal

pub returns-in-Ok-clause-opens : goal.returns-in-Ok-clause-opens
returns-in-Ok-clause-opens g c = (
  device c.in-Ok.device,
  opens_file g.F.Read.remaining c.args.image c.in-Some.file c.in-Ok.device c.in-Some.is c.in-Ok.ensures.opens,
  c.into_memory.ensures.flash,
)
