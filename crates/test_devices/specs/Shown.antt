-- What a flash that is put together shows.
use Rattle.nand_model.specs.Calls.{Device}
use Rattle.nand_model.specs.Plans.{Plan}
use Rattle.nand_model.specs.MemoryState as memory
use Rattle.test_devices.specs.declared.flash.TestFlash.{TestFlash}

-- what is known of its device
abbrev pub device_of : TestFlash → Device
device_of flash = memory.device flash.nand

-- and which of its calls fail
abbrev pub plan_of : TestFlash → Plan
plan_of flash = memory.plan flash.nand
