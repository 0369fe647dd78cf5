-- Images that were opened.
use Rattle.std.proofs.Common.{◌≡◌, ℕ, List, Option, Some, refl, sym, subst}
use Rattle.nand_image.specs.ImageState.{device}
use Rattle.nand_image.specs.Opening.{OpensAs}
use Rattle.nand_image.specs.declared.device.ImageNand.{ImageNand}
use Rattle.flash_program.specs.Images.{Opens}

pub opens_file : {F : Type 0} (known : F → Option (List ℕ)) (image : Option F) (file : F) (opened : ImageNand F) → image ≡ Some file → OpensAs (known file) opened
    → Opens known image (device opened)
opens_file known image file opened is opens = subst (λ i. Opens known i (device opened)) (sym is) (opened, opens, refl)
