-- How the program ends.
use Rattle.std.specs.Prelude.{◌≡◌, ◌⊎◌, ℕ, List, Option, None, Result, Err}
use Rattle.nand_model.specs.declared.nand.Nand.{Ghosts}
use Rattle.nand_model.specs.declared.trusted_nand.TrustedNand.{TrustedNand}
use Rattle.clap.specs.Words.{Text, subcommand_of}
use Rattle.flash_program.specs.Acting.{ActsAs}
use Rattle.flash_program.specs.Sessions.{Stream}
use Rattle.flash_program.specs.Statuses.{status_of}
use Rattle.flash_program.specs.declared.fault.ProgramFault.{ProgramFault}
use Rattle.flash_program.specs.declared.fault.ProgramFault.TheVariants as faults
use Rattle.flash_program.specs.Choices.{AreTaken, AskForHelp, Chooses}
use Rattle.flash_program.specs.Program.{program}
use Rattle.flash_program.specs.declared.chosen.Chosen.{Chosen}

-- what was chosen was done over some image that was opened, or over none, and ended so
abbrev pub IsDone : {F M I : Type 0} → (F → Option (List ℕ)) → (memory : Ghosts (TrustedNand M)) → (images : Ghosts (TrustedNand I)) → Chosen → (input output : Stream)
    → Result (Unit {0}) ProgramFault → Type 0
IsDone {F} known memory images chosen input output ended = (image : Option F) × ActsAs known memory images chosen image input output ended

-- a stream that reports none of its bytes
abbrev pub silent : Stream
silent = record { before = None; after = None }

-- memory was refused, or it was done between streams that report none of their bytes
abbrev pub IsDoneBetween : {F M I : Type 0} → (F → Option (List ℕ)) → (memory : Ghosts (TrustedNand M)) → (images : Ghosts (TrustedNand I)) → Chosen → Result (Unit {0}) ProgramFault → Type 0
IsDoneBetween known memory images chosen ended = (ended ≡ Err faults.NoMemory) ⊎ IsDone known memory images chosen silent silent ended

-- it was done so, and this is the status of the end
abbrev pub IsDoneWith : {F M I : Type 0} → (F → Option (List ℕ)) → (memory : Ghosts (TrustedNand M)) → (images : Ghosts (TrustedNand I)) → Chosen → ℕ → Type 0
IsDoneWith known memory images chosen status =
    (ended : Result (Unit {0}) ProgramFault) × (status ≡ status_of ended) × IsDoneBetween known memory images chosen ended

-- The status is 1; or it is 0 of words that ask for help or the version; or the words are taken, what they choose was done, and it
-- is the status of that.
abbrev pub EndsWith : {F M I : Type 0} → (F → Option (List ℕ)) → (memory : Ghosts (TrustedNand M)) → (images : Ghosts (TrustedNand I)) → List Text → ℕ → Type 0
EndsWith known memory images words status =
    (status ≡ 1) ⊎ ((status ≡ 0) × AskForHelp words)
    ⊎ ((chosen : Chosen) × AreTaken words × Chooses (subcommand_of program words) chosen × IsDoneWith known memory images chosen status)
