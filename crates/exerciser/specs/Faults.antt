-- The faults of sessions.
use Rattle.mounting.specs.declared.fault.MountFault.{MountFault}
use Rattle.mounting.specs.declared.fault.MountFault.TheVariants as mounts
use Rattle.plain_volume.specs.declared.fault.TreeFault.{TreeFault}
use Rattle.plain_volume.specs.declared.fault.TreeFault.TheVariants as tree_faults
use Rattle.exerciser.specs.declared.fault.CutFault.{CutFault}
use Rattle.exerciser.specs.declared.fault.CutFault.TheVariants as faults

-- a fault of the reading of a tree
abbrev pub of_tree : TreeFault → CutFault
of_tree tree_faults.NoMemory = faults.NoMemory
of_tree (tree_faults.Refused error) = faults.Unread
of_tree tree_faults.Unlike = faults.Unread

-- a fault of a mount; where memory was refused it is that
abbrev pub of_mount : MountFault → CutFault
of_mount mounts.NoMemory = faults.NoMemory
of_mount mounts.Gone = faults.Mount mounts.Gone
of_mount mounts.NotAVolume = faults.Mount mounts.NotAVolume
of_mount (mounts.Newer format) = faults.Mount (mounts.Newer format)
of_mount mounts.Damaged = faults.Mount mounts.Damaged

-- memory was refused, or a tree was not read
abbrev pub IsOfReading : CutFault → Type 0
IsOfReading faults.NoMemory = Unit {0}
IsOfReading (faults.Mount fault) = ⊥
IsOfReading faults.Unmount = ⊥
IsOfReading faults.Unread = Unit {0}
IsOfReading faults.Torn = ⊥
IsOfReading faults.Write = ⊥
