-- Pages in memory.
use Rattle.std.specs.Prelude.{false, None}
use Rattle.std.proofs.Common.{refl, arith, inl}
use Rattle.nand_model.specs.Size.{IsSize}
use Rattle.nand_model.specs.Flash.{Flash, Erased}
use Rattle.nand_model.specs.Calls.{Device}
use Rattle.nand_model.specs.declared.geometry.Geometry.{Geometry}

least_size : IsSize 512 32 5
least_size = record { bytes_of_page = inl refl; pages_of_block = inl refl; few_blocks = (omega arith, omega arith) }

-- the sizes of the least device
pub least_geometry : Geometry
least_geometry = record {
  bytes = 512;
  pages = 32;
  blocks = 5;
  least_bytes = omega arith;
  most_bytes = omega arith;
  least_pages = omega arith;
  most_pages = omega arith;
  least_blocks = omega arith;
  most_blocks = omega arith;
  sizes = ∣ least_size ∣₁;
}

-- a flash on which nothing is written
abbrev pub blank_flash : Flash
blank_flash = record { bad = λ b. false; next = λ b. None; page = λ b p. Erased }

-- no device: one that promises nothing
abbrev pub no_device : Device
no_device = record { geometry = least_geometry; flash = blank_flash; gone = false; honest = false; honest_itself = false; steady = false; cuts = 0; failures = 0; changes = 0; reads = 0 }
