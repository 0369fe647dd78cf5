-- What holds of both of two devices holds of one that is either.
use Rattle.nand_model.specs.Calls.{Device}
use Rattle.port_nand.specs.Either.{state_of}
use Rattle.port_nand.specs.declared.either_nand.EitherNand.{EitherNand}
use Rattle.port_nand.specs.declared.either_nand.EitherNand.TheVariants as either

pub of_both : {A B : Type 0} (first : A → Device) (second : B → Device) (Holds : Device → Type 0) → ((d : A) → Holds (first d)) → ((d : B) → Holds (second d))
    → (d : EitherNand A B) → Holds (state_of first second d)
of_both first second Holds one other (either.First d) = one d
of_both first second Holds one other (either.Second d) = other d
