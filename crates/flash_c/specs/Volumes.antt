-- How a volume is mounted, formatted and ended, over any device: of the device before, and the same device after.
use Rattle.std.specs.Prelude.{◌≡◌, ◌⊎◌, ◌<◌, ◌≤◌, ◌↔◌, ℕ, ◌+◌, false, true, Result, Ok, Err, ℤ, pos}
use Rattle.flash_tree.specs.Mount.{bad_blocks}
use Rattle.flash_tree.specs.Sound.{IsSoundFlash}
use Rattle.formatting.specs.declared.fault.FormatFault.{FormatFault}
use Rattle.formatting.specs.declared.fault.FormatFault.TheVariants as formats
use Rattle.mounting.specs.Faults.{WhyNotMounted}
use Rattle.mounting.specs.declared.fault.MountFault.{MountFault}
use Rattle.nand_model.specs.Calls.{Device, Lasts}
use Rattle.nand_model.specs.Changes.{OnlyReads}
use Rattle.posix_calls.specs.declared.page_volume.PageVolume.{PageVolume}
use Rattle.page_store.specs.Checked.{IsConsistent}
use Rattle.pages.specs.State.{PagesState}
use Rattle.port_nand.specs.declared.sizes.OpenFault.{OpenFault}
use Rattle.posix_calls.specs.Endings.{IsUnmounted}
use Rattle.posix_calls.specs.Mounts.{IsMounted, IsMountedByScan}
use Rattle.posix_profile.specs.declared.reply.Reply.{Reply}
use Rattle.posix_profile.specs.laws.Fresh.{fresh}
use Rattle.flash_c.specs.Numbers.{done_number, mount_number, format_number, open_number}
use Rattle.flash_c.specs.declared.way.Way.{Way}
use Rattle.flash_c.specs.declared.way.Way.TheVariants as ways

-- the device was not mounted: it was only read, and the number is that of the fault, which has its reason
pub record NotMounted (old new : Device) (number : ℤ) : Type 0 where
  pub fault : MountFault
  pub number_is : number ≡ mount_number fault
  pub reads : OnlyReads old new
  pub why : WhyNotMounted new fault

-- the device has four blocks besides the spare ones, power, and no more bad blocks than are to spare; an honest one holds a new volume, and its
-- flash is true
pub record IsNew (spare : ℕ) (old new : Device) : Type 0 where
  pub room : spare + 4 ≤ old.geometry.blocks
  pub power : new.gone ≡ false
  pub few_bad : bad_blocks new.geometry new.flash ≤ spare
  pub sound : old.honest ≡ true → IsSoundFlash new.geometry new.flash spare fresh.objects
  pub true_flash : old.honest ≡ true → IsConsistent new.geometry new.flash

-- Why a device was not formatted: too few blocks besides the spare ones, or memory was refused, and the device was left; too many
-- blocks are bad; or it lost its power.
abbrev pub WhyNotFormatted : ℕ → Device → Device → FormatFault → Type 0
WhyNotFormatted spare old new formats.Spare = new ≡ old
WhyNotFormatted spare old new formats.NoMemory = new ≡ old
WhyNotFormatted spare old new formats.Worn = spare < bad_blocks new.geometry new.flash
WhyNotFormatted spare old new formats.Gone = new.gone ≡ true

-- the device was not formatted: the number is that of the fault, which has its reason; it is too many spare blocks exactly where four others
-- are not left
pub record NotFormatted (spare : ℕ) (old new : Device) (number : ℤ) : Type 0 where
  pub fault : FormatFault
  pub number_is : number ≡ format_number fault
  pub why : WhyNotFormatted spare old new fault
  pub spare_is : (fault ≡ formats.Spare) ↔ (old.geometry.blocks < spare + 4)

-- a device was formatted, or was not: 0 where it is new
pub record IsFormatted (spare : ℕ) (old new : Device) (number : ℤ) : Type 0 where
  pub lasts : Lasts old new
  pub ends : ((number ≡ pos 0) × IsNew spare old new) ⊎ NotFormatted spare old new number

-- a volume was unmounted: the number is that of the reply
pub record IsEnded {P : Type 0} (state : P → PagesState) (v : PageVolume P) (device : Device) (number : ℤ) : Type 0 where
  pub reply : Reply
  pub unmounted : IsUnmounted state v device reply
  pub number_is : number ≡ done_number reply

-- The format of a device that was opened, which has power: of the one that was opened, and the same after it. Where none was opened the
-- number is that of the fault.
abbrev pub FormatsOpened : {D : Type 0} → (D → Device) → ℕ → Result D OpenFault → ℤ → Type 0
FormatsOpened {D} state spare (Ok opened) number = ((state opened).gone ≡ false) × (after : D) × IsFormatted spare (state opened) (state after) number
FormatsOpened state spare (Err fault) number = number ≡ open_number fault

-- the volume of a device is mounted in this way
abbrev pub IsMountedBy : {P : Type 0} → Way → (P → PagesState) → Device → PageVolume P → Type 0
IsMountedBy ways.Shortest state device v = IsMounted state device v
IsMountedBy ways.AllTags state device v = IsMountedByScan state device v

-- The mount of a device that was opened, which has power: 0 and its volume, or a number below 0 for its reason. Where none was opened
-- the number is that of the fault.
abbrev pub MountsOpened : {D P : Type 0} → Way → (D → Device) → (P → PagesState) → Result D OpenFault → ℤ → PageVolume P → Type 0
MountsOpened {D} way state pages (Ok opened) number v = ((state opened).gone ≡ false)
    × (((number ≡ pos 0) × IsMountedBy way pages (state opened) v) ⊎ ((after : D) × NotMounted (state opened) (state after) number))
MountsOpened way state pages (Err fault) number v = number ≡ open_number fault

-- A mount in this way of some device of this type that a port gives: its number and its volume, or the number for which none is given.
abbrev pub MountsBy : {D P : Type 0} → Way → (D → Device) → (P → PagesState) → ℤ → PageVolume P → Type 0
MountsBy {D} way state pages number v = (opened : Result D OpenFault) × MountsOpened way state pages opened number v

-- A format of some device of this type that a port gives: its number, or that for which none is given.
abbrev pub FormatsAt : {D : Type 0} → (D → Device) → ℕ → ℤ → Type 0
FormatsAt {D} state spare number = (opened : Result D OpenFault) × FormatsOpened state spare opened number

-- An unmount of a volume gives some device of this type back, with this number.
abbrev pub EndsAt : {D P : Type 0} → (D → Device) → (P → PagesState) → PageVolume P → ℤ → Type 0
EndsAt {D} state pages v number = (after : D) × IsEnded pages v (state after) number
