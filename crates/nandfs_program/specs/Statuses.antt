-- The exit status of a fault.
use Rattle.std.specs.Prelude.{ℕ}
use Rattle.mounting.specs.declared.fault.MountFault.{MountFault}
use Rattle.mounting.specs.declared.fault.MountFault.TheVariants as mounts
use Rattle.nandfs_program.specs.declared.fault.ToolFault.{ToolFault}
use Rattle.nandfs_program.specs.declared.fault.ToolFault.TheVariants as faults

-- 3 where the image has no volume that the program reads
abbrev pub mount_status : MountFault → ℕ
mount_status mounts.NotAVolume = 3
mount_status (mounts.Newer version) = 3
mount_status mounts.Damaged = 3
mount_status mounts.Gone = 2
mount_status mounts.NoMemory = 2

-- 3 where not all of a volume could be read, 1 for a word that is not taken, and 2 for each other fault
abbrev pub status_of : ToolFault → ℕ
status_of (faults.Mount fault) = mount_status fault
status_of faults.Losses = 3
status_of faults.BadTime = 1
status_of fault = 2
