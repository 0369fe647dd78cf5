use Rattle.device_tests.proofs.SmallDeviceLaws.{open_same, open_unsteady}
use Rattle.device_tests.proofs.fates.written_cut.Goals as goal

pub returns : goal.returns
returns g c = open_same _ _ c.with_fuse.ensures.device 5 (open_unsteady 5 _ c.written-nand.ensures)
