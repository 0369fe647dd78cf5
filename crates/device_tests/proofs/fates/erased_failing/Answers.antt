use Rattle.device_tests.proofs.SmallDeviceLaws.{open_same}
use Rattle.device_tests.proofs.fates.erased_failing.Goals as goal

pub returns : goal.returns
returns g c = open_same _ _ c.with_failures.ensures.device 0 c.erased-nand.ensures
