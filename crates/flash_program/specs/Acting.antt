-- What the program does of what was chosen.
use Rattle.std.specs.Prelude.{◌≡◌, ℕ, List, Option, Result}
use Rattle.nand_model.specs.declared.nand.Nand.{Ghosts}
use Rattle.nand_model.specs.declared.trusted_nand.TrustedNand.{TrustedNand}
use Rattle.flash_program.specs.declared.chosen.Chosen.{Chosen}
use Rattle.flash_program.specs.declared.chosen.Chosen.TheVariants as choices
use Rattle.flash_program.specs.Images.{RunEnds, ImageCheckEnds, CutEnds, MakeEnds}
use Rattle.flash_program.specs.Sessions.{IsUntouched, ProgramEnds, Stream}
use Rattle.flash_program.specs.declared.fault.ProgramFault.{ProgramFault}

-- The program acts as was chosen: over a flash in memory, whatever the file is, or that is a copy of the image in the file; or
-- over the image.
abbrev pub ActsAs : {F M I : Type 0} → (F → Option (List ℕ)) → (memory : Ghosts (TrustedNand M)) → (images : Ghosts (TrustedNand I)) → Chosen → Option F
    → (input output : Stream) → Result (Unit {0}) ProgramFault → Type 0
ActsAs known memory images choices.Memory image input output result = ProgramEnds memory input output result
ActsAs known memory images (choices.Format name size pages blocks spare) image input output result =
    MakeEnds images image size pages blocks spare output result × IsUntouched input
ActsAs known memory images (choices.Run name) image input output result = RunEnds known images image input output result
ActsAs known memory images (choices.Check name) image input output result = ImageCheckEnds known memory image output result × IsUntouched input
ActsAs known memory images (choices.Cut name seed sessions) image input output result = CutEnds known image seed sessions input output result
