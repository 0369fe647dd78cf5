use Rattle.std.proofs.Common.{None}
use Rattle.test_devices.proofs.mount.mount_log_beside.Given as goal

abbrev pub ghost-as_chosen : goal.ghost-as_chosen
ghost-as_chosen a = None
