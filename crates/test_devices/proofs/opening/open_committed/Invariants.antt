use Rattle.std.proofs.Common.{None}
use Rattle.test_devices.proofs.opening.open_committed.Given as goal

abbrev pub ghost-new : goal.ghost-new
ghost-new g a = None
