-- The numbers of a mount's faults, and the volume that is mounted.
use Rattle.std.proofs.Common.{◌≡◌, ◌<ℤ◌, ◌≤ℤ◌, ◌∙◌, ℤ, pos, false, refl, sym, ap, subst, to_z, of_z, w32, arith}
use Rattle.mounting.specs.declared.fault.MountFault.{MountFault}
use Rattle.mounting.specs.declared.fault.MountFault.TheVariants as mounts
use Rattle.nand_model.specs.Calls.{Device}
use Rattle.posix_calls.specs.declared.page_volume.PageVolume.{PageVolume}
use Rattle.pages.specs.State.{PagesState}
use Rattle.posix_calls.specs.PageVolumes.{is_stopped}
use Rattle.flash_c.specs.Numbers.{mount_number}
use Rattle.flash_c.specs.Volumes.{IsMountedBy}
use Rattle.flash_c.specs.declared.way.Way.{Way}
use Rattle.flash_c.specs.declared.way.Way.TheVariants as ways

pub mount_fits : (fault : MountFault) → to_z w32 (of_z w32 (mount_number fault)) ≡ mount_number fault
mount_fits mounts.Gone = refl
mount_fits mounts.NoMemory = refl
mount_fits mounts.NotAVolume = refl
mount_fits (mounts.Newer format) = refl
mount_fits mounts.Damaged = refl

pub mount_below : (fault : MountFault) → mount_number fault <ℤ pos 0
mount_below mounts.Gone = search arith
mount_below mounts.NoMemory = search arith
mount_below mounts.NotAVolume = search arith
mount_below (mounts.Newer format) = search arith
mount_below mounts.Damaged = search arith

pub mounted_as : {P : Type 0} (way : Way) (state : P → PagesState) (device : Device) (v w : PageVolume P) → v ≡ w → IsMountedBy way state device v → IsMountedBy way state device w
mounted_as way state device v w same = subst (IsMountedBy way state device) same

-- a volume that is mounted goes on, whichever way it was mounted
pub goes_by : {P : Type 0} (way : Way) (state : P → PagesState) (device : Device) (v : PageVolume P) → IsMountedBy way state device v → is_stopped v ≡ false
goes_by ways.Shortest state device v mounted = mounted.goes_on
goes_by ways.AllTags state device v mounted = mounted.goes_on

-- the number of a fault, returned as a number of 32 bits
pub mount_same : (number : ℤ) (fault : MountFault) → number ≡ mount_number fault → to_z w32 (of_z w32 number) ≡ mount_number fault
mount_same number fault is = ap (λ (n : ℤ). to_z w32 (of_z w32 n)) is ∙ mount_fits fault

pub mount_sign : (number : ℤ) (fault : MountFault) → number ≡ mount_number fault → to_z w32 (of_z w32 number) <ℤ pos 0
mount_sign number fault is = subst (λ (n : ℤ). n <ℤ pos 0) (sym (mount_same number fault is)) (mount_below fault)

pub not_zero : {number : ℤ} → number <ℤ pos 0 → number ≡ pos 0 → ⊥
not_zero {number} below zero = let no : pos 0 <ℤ pos 0 = subst (λ (n : ℤ). n <ℤ pos 0) zero below in search (arith, no)

pub not_above : (number : ℤ) → number <ℤ pos 0 → number ≤ℤ pos 0
not_above number below = search (arith, below)
