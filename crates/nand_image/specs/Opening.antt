-- What opening an image answers where the bytes of the file are known.
use Rattle.std.specs.Prelude.{◌≢◌, ℕ, List, length, Option, IfSome}
use Rattle.nand_image.specs.ImageState.{device}
use Rattle.nand_image.specs.Images.{HasHead, ReportsSize, reported_size, IsImage}
use Rattle.nand_image.specs.declared.fault.ImageFault.{ImageFault}
use Rattle.nand_image.specs.declared.fault.ImageFault.TheVariants as faults
use Rattle.nand_image.specs.declared.device.ImageNand.{ImageNand}

-- the device is what the image says
abbrev pub OpensAs : {F : Type 0} → Option (List ℕ) → ImageNand F → Type 0
OpensAs known opened = IfSome known (λ image. HasHead image × IsImage image (device opened))

-- Each fault comes only for its reason, and where those before it do not hold. That a file could not be read, or that
-- memory was refused, has no reason in the bytes.
abbrev pub Explains : Option (List ℕ) → ImageFault → Type 0
Explains known faults.Read = Unit {0}
Explains known faults.Write = ⊥
Explains known faults.Magic = IfSome known (λ image. ¬ HasHead image)
Explains known faults.BadGeometry = IfSome known (λ image. HasHead image × (¬ ReportsSize image))
Explains known faults.NoMemory = IfSome known (λ image. HasHead image × ReportsSize image)
Explains known faults.Size = IfSome known (λ image. HasHead image × ReportsSize image × (length image ≢ reported_size image))
