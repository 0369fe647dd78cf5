-- What is known of a device that is one of two.
use Rattle.nand_model.specs.Calls.{Device}
use Rattle.port_nand.specs.declared.either_nand.EitherNand.{EitherNand}
use Rattle.port_nand.specs.declared.either_nand.EitherNand.TheVariants as either

-- what is known of the one that it is
abbrev pub state_of : {A B : Type 0} → (A → Device) → (B → Device) → EitherNand A B → Device
state_of first second (either.First d) = first d
state_of first second (either.Second d) = second d
