-- Why a check is not made.
use Rattle.std.specs.Prelude.{◌≡◌, true, false}
use Rattle.nand_model.specs.Calls.{Device}
use Rattle.pages.specs.State.{PagesState}
use Rattle.page_store.specs.declared.opening.OpenFault.{OpenFault}
use Rattle.page_store.specs.declared.opening.OpenFault.TheVariants as opens
use Rattle.volume_check.specs.declared.fault.CheckFault.{CheckFault}
use Rattle.volume_check.specs.declared.fault.CheckFault.TheVariants as faults

-- why a device was not opened, as a check says it
abbrev pub of_open : OpenFault → CheckFault
of_open opens.NoMemory = faults.NoMemory
of_open opens.Lost = faults.Lost
of_open opens.Gone = faults.Gone

-- Why no check was made: memory was refused; the device is gone; it is not honest.
abbrev pub WhyNotChecked : Device → CheckFault → Type 0
WhyNotChecked device faults.NoMemory = Unit {0}
WhyNotChecked device faults.Gone = device.gone ≡ true
WhyNotChecked device faults.Lost = device.honest ≡ false

-- the device has power, and has failed: it did not return what was written
pub record LosesPages (new : PagesState) : Type 0 where
  pub failed : new.failed ≡ true
  pub power : new.device.gone ≡ false

-- Why nothing is said of pages: memory was refused; the device is gone; it did not return what was written.
abbrev pub WhyNoVerdict : PagesState → CheckFault → Type 0
WhyNoVerdict new faults.NoMemory = Unit {0}
WhyNoVerdict new faults.Gone = new.device.gone ≡ true
WhyNoVerdict new faults.Lost = LosesPages new
