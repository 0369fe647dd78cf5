-- The parts of a device that counts as honest only where it is trusted.
use Rattle.nand_model.specs.Calls.{Device}
use Rattle.nand_model.specs.Trusting.{trusted_as}
use Rattle.nand_model.specs.declared.trusted_nand.TrustedNand.{TrustedNand}

-- the device itself
abbrev pub inner_of : {N : Type 0} → TrustedNand N → N
inner_of d = d.inner

-- the device as it is seen, by what is known of the device itself
abbrev pub seen_by : {N : Type 0} → (N → Device) → TrustedNand N → Device
seen_by state d = trusted_as d.trust.reported (state d.inner)
