-- What is known of a device in a session.
use Rattle.nand_model.specs.Calls.{Device, Lasts}
use Rattle.nand_model.specs.MemoryState.{device, plan}
use Rattle.nand_model.specs.Plans.{Plan}
use Rattle.powercut.specs.Naming.{session_number, named, begun}
use Rattle.powercut.specs.declared.device.PlannedNand.{PlannedNand}

-- all that is known of the device in memory, and which session it is in
abbrev pub state_of : PlannedNand → Device
state_of d = named (session_number (plan d.nand).fuse (plan d.nand).failures d.start.reported) (device d.nand)

-- the device is in the session that began with this plan and with this device, or at its end
abbrev pub InSession : Plan → (first : Device) → PlannedNand → Type 0
InSession p first d = Lasts (begun p first) (state_of d)
