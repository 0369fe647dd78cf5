-- The parts of a device that was opened.
use Rattle.port_nand.specs.declared.driver.Driver.{Driver}
use Rattle.port_nand.specs.declared.either_nand.EitherNand.{EitherNand}
use Rattle.port_nand.specs.declared.either_nand.EitherNand.TheVariants as either
use Rattle.port_nand.specs.declared.device.PortNand.{PortNand}
use Rattle.port_nand.specs.declared.port.Port.{Ghosts}
use Rattle.port_nand.specs.declared.sizes.Sizes.{Sizes}
use Rattle.port_nand.specs.declared.sizes.TagForm.TheVariants as forms
use Rattle.port_nand.specs.declared.small_device.SmallPortNand.{SmallPortNand}
use Rattle.port_nand.specs.Parts.{inner_of}
use Rattle.port_nand.specs.declared.small_spare.SmallSpareNand.{Ghosts as SmallGhosts}
use Rattle.port_nand.specs.declared.packed_nand.PackedNand.{PackedNand}

module _ {P : Type 0} {port : Ghosts P} {small : SmallGhosts (SmallPortNand P port)} where
  -- its driver
  abbrev pub driver_of : EitherNand (PortNand P port) (PackedNand (SmallPortNand P port) small) → Driver P
  driver_of (either.First d) = d.driver
  driver_of (either.Second d) = (inner_of d).driver

  -- the sizes that it goes by
  abbrev pub sizes_of : EitherNand (PortNand P port) (PackedNand (SmallPortNand P port) small) → Sizes
  sizes_of (either.First d) = record { geometry = d.driver.geometry; tags = forms.Whole }
  sizes_of (either.Second d) = record { geometry = (inner_of d).driver.geometry; tags = forms.Packed }
