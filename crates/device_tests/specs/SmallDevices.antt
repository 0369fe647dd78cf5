-- Devices that the tests work on.
use Rattle.std.specs.Prelude.{◌≡◌, ℕ, false, Some}
use Rattle.nand_model.specs.Calls.{Device}

-- eight blocks of 32 pages of 512 bytes, and block 1 is good
pub record IsSmall (device : Device) : Type 0 where
  pub bytes : device.geometry.bytes ≡ 512
  pub pages : device.geometry.pages ≡ 32
  pub blocks : device.geometry.blocks ≡ 8
  pub good : device.flash.bad 1 ≡ false

-- and this page of block 1 is the next
pub record TakesPage (page : ℕ) (device : Device) : Type 0 where
  pub small : IsSmall device
  pub next : device.flash.next 1 ≡ Some page
