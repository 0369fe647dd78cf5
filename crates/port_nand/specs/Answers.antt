-- What the answers of a device with tags of 24 bytes say.
use Rattle.std.specs.Prelude.{◌≡◌, ℕ, Bool, true, false, Result, Ok, Err, List}
use Rattle.nand_model.specs.declared.nand.PageKind.{PageKind}
use Rattle.nand_model.specs.declared.nand.PageKind.TheVariants as kinds
use Rattle.nand_model.specs.declared.nand.Gone.{Gone}
use Rattle.nand_model.specs.declared.nand.ProgramFault.{ProgramFault}
use Rattle.nand_model.specs.declared.nand.ProgramFault.TheVariants as program_faults
use Rattle.nand_model.specs.declared.nand.EraseFault.{EraseFault}
use Rattle.nand_model.specs.declared.nand.EraseFault.TheVariants as erase_faults
use Rattle.port_nand.specs.Packed.{unpacked}

-- a tag after a read that left 24 bytes
abbrev pub TagAfter : Result PageKind Gone → (packed old new : List ℕ) → Type 0
TagAfter (Ok kinds.Written) packed old new = new ≡ unpacked packed
TagAfter (Ok kinds.Erased) packed old new = new ≡ old
TagAfter (Ok kinds.Uncorrectable) packed old new = new ≡ old
TagAfter (Err gone) packed old new = new ≡ old

-- the device is gone after a program
abbrev pub is_program_gone : Result (Unit {0}) ProgramFault → Bool
is_program_gone (Ok done) = false
is_program_gone (Err program_faults.Failed) = false
is_program_gone (Err program_faults.Gone) = true

-- the device is gone after an erase
abbrev pub is_erase_gone : Result (Unit {0}) EraseFault → Bool
is_erase_gone (Ok done) = false
is_erase_gone (Err erase_faults.Failed) = false
is_erase_gone (Err erase_faults.Gone) = true
