-- What a device in a file represents.
use Rattle.nand_model.specs.Calls.{Device}
use Rattle.nand_model.specs.MemoryState as memory
use Rattle.nand_model.specs.Putting.{unsteady}
use Rattle.nand_image.specs.declared.device.ImageNand.{ImageNand}

-- what its memory represents, where any call may be cut, since any write may fail
abbrev pub device : {F : Type 0} → ImageNand F → Device
device d = unsteady (memory.device d.memory)
