-- Why a device was not mounted.
use Rattle.std.specs.Prelude.{◌≡◌, true, false}
use Rattle.nand_model.specs.Calls.{Device}
use Rattle.flash_tree.specs.Mount.{Answers, NotAVolume, IsWrong, IsNewer, IsDamaged}
use Rattle.mount_scan.specs.declared.fault.ScanFault.{ScanFault}
use Rattle.mount_scan.specs.declared.fault.ScanFault.TheVariants as scans
use Rattle.page_store.specs.declared.opening.OpenFault.{OpenFault}
use Rattle.page_store.specs.declared.opening.OpenFault.TheVariants as opens
use Rattle.tree_walk.specs.declared.fault.RootFault.{RootFault}
use Rattle.tree_walk.specs.declared.fault.RootFault.TheVariants as roots
use Rattle.mounting.specs.declared.fault.MountFault.{MountFault}
use Rattle.mounting.specs.declared.fault.MountFault.TheVariants as faults

-- What a fault of a device that has power says: memory was refused, or it is what a mount answers of the flash, if the device is
-- honest.
abbrev pub IsReason : Device → MountFault → Type 0
IsReason device faults.Gone = ⊥
IsReason device faults.NoMemory = Unit {0}
IsReason device faults.NotAVolume = device.honest ≡ true → Answers device.geometry device.flash NotAVolume
IsReason device (faults.Newer format) = device.honest ≡ true → Answers device.geometry device.flash (IsWrong (IsNewer format))
IsReason device faults.Damaged = device.honest ≡ true → Answers device.geometry device.flash (IsWrong IsDamaged)

-- The device is gone; or it has power, and the fault has its reason.
abbrev pub WhyNotMounted : Device → MountFault → Type 0
WhyNotMounted device faults.Gone = device.gone ≡ true
WhyNotMounted device fault = (device.gone ≡ false) × IsReason device fault

-- a fault of a scan, as one of a mount
abbrev pub of_open : OpenFault → MountFault
of_open opens.NoMemory = faults.NoMemory
of_open opens.Lost = faults.Damaged
of_open opens.Gone = faults.Gone

-- a fault of an opening by summaries, as one of a tree that was not read
abbrev pub of_found : OpenFault → RootFault
of_found opens.NoMemory = roots.NoMemory
of_found opens.Lost = roots.Damaged
of_found opens.Gone = roots.Device

-- a fault of the search for a checkpoint, as one of a mount
abbrev pub of_search : ScanFault → MountFault
of_search scans.NoMemory = faults.NoMemory
of_search scans.Gone = faults.Gone

-- a fault of a tree that was not read, as one of a mount
abbrev pub of_root : RootFault → MountFault
of_root roots.NoMemory = faults.NoMemory
of_root roots.Device = faults.Damaged
of_root roots.NotAVolume = faults.NotAVolume
of_root (roots.Newer format) = faults.Newer format
of_root roots.Damaged = faults.Damaged

-- what an honest device's fault says of it: that it is gone, or what a mount answers of its flash
abbrev pub AnswersFault : Device → RootFault → Type 0
AnswersFault device roots.NoMemory = Unit {0}
AnswersFault device roots.Device = device.gone ≡ true
AnswersFault device roots.NotAVolume = Answers device.geometry device.flash NotAVolume
AnswersFault device (roots.Newer format) = Answers device.geometry device.flash (IsWrong (IsNewer format))
AnswersFault device roots.Damaged = Answers device.geometry device.flash (IsWrong IsDamaged)
