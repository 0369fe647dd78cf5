use Rattle.device_tests.proofs.SmallDeviceLaws.{open_erased}
use Rattle.device_tests.proofs.fates.erased.Goals as goal

pub returns : goal.returns
returns g c = open_erased _ _ _ _ c.expect.ensures c.small-nand.ensures c.erase.ensures.erases
