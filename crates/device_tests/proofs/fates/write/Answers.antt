use Rattle.device_tests.proofs.SmallDeviceLaws.{open_programmed}
use Rattle.device_tests.proofs.fates.write.Goals as goal

pub returns : goal.returns
returns g c = open_programmed _ _ _ _ _ _ _ c.expect.ensures c.requires.open.small c.program.ensures.programs
