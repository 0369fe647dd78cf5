-- The parts of a device with packed tags.
use Rattle.nand_model.specs.Calls.{Device}
use Rattle.port_nand.specs.Adapted.{unpacked_device}
use Rattle.port_nand.specs.declared.small_spare.SmallSpareNand.{Ghosts}
use Rattle.port_nand.specs.declared.packed_nand.PackedNand.{PackedNand}

-- the device itself
abbrev pub inner_of : {N : Type 0} {small : Ghosts N} → PackedNand N small → N
inner_of d = d.inner

-- what is known of the device itself
abbrev pub small_state : {N : Type 0} {small : Ghosts N} → PackedNand N small → Device
small_state {small = small} d = small.state d.inner

-- what is known of it as one with tags of 48 bytes
abbrev pub state_of : {N : Type 0} {small : Ghosts N} → PackedNand N small → Device
state_of d = unpacked_device d.refusals (small_state d)
