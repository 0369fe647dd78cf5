-- Why a call on a flash that is put together is refused.
use Rattle.std.specs.Prelude.{◌≡◌, ◌⊎◌, ◌<◌, ◌≤◌, ℕ, true, Some}
use Rattle.nand_model.specs.Calls.{Device}
use Rattle.test_devices.specs.declared.flash.TestFault.{TestFault}
use Rattle.test_devices.specs.declared.flash.TestFault.TheVariants as faults

-- there is no such block; it is bad; its next page is past its last; the device reported a failure, or is gone
abbrev pub Explains : ℕ → Device → Device → TestFault → Type 0
Explains block old new faults.NoBlock = old.geometry.blocks ≤ block
Explains block old new faults.BadBlock = old.flash.bad block ≡ true
Explains block old new faults.Full = (page : ℕ) × (new.flash.next block ≡ Some page) × (new.geometry.pages ≤ page)
Explains block old new faults.Device = (old.failures < new.failures) ⊎ (new.gone ≡ true)
