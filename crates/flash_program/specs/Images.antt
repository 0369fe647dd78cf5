-- What the subcommands do over an image.
use Rattle.std.specs.Prelude.{◌≡◌, ◌⊎◌, ℕ, true, false, List, Option, Some, None, Result, Ok, Err, IfErr}
use Rattle.std.specs.Global.{Vec}
use Rattle.exerciser.specs.Causes.{HasCause}
use Rattle.exerciser.specs.Cutting.{Cuts}
use Rattle.exerciser.specs.declared.fault.CutFault.{CutFault}
use Rattle.exerciser.specs.declared.fault.CutFault.TheVariants as cuts
use Rattle.line_shell.specs.Scripts.{ReadsScript}
use Rattle.line_shell.specs.declared.fault.ShellFault.TheVariants as shells
use Rattle.line_shell.specs.declared.script.ScriptFault.{ScriptFault}
use Rattle.line_shell.specs.declared.script.ScriptFault.TheVariants as scripts
use Rattle.nand_image.specs.ImageState.{device}
use Rattle.nand_image.specs.Opening.{OpensAs, Explains}
use Rattle.nand_image.specs.declared.device.ImageNand.{ImageNand}
use Rattle.nand_image.specs.declared.fault.ImageFault.{ImageFault}
use Rattle.nand_image.specs.declared.fault.ImageFault.TheVariants as images
use Rattle.nand_model.specs.Calls.{Device}
use Rattle.nand_model.specs.Changes.{CountsNothing, IsBlank, PowersUp}
use Rattle.nand_model.specs.Size.{IsSize}
use Rattle.nand_model.specs.declared.nand.Nand.{Ghosts}
use Rattle.nand_model.specs.declared.trusted_nand.TrustedNand.{TrustedNand}
use Rattle.posix_profile.specs.declared.command.Stamped.{Stamped}
use Rattle.flash_program.specs.Sessions.{IsUntouched, LinesEnd, Stream}
use Rattle.flash_program.specs.Spaces.{CheckEnds, FormatEnds}
use Rattle.flash_program.specs.declared.fault.ProgramFault.{ProgramFault}
use Rattle.flash_program.specs.declared.fault.ProgramFault.TheVariants as faults

-- there is no file, or what its bytes hold is no image, for the reason that is reported
abbrev pub NotOpened : {F : Type 0} → (F → Option (List ℕ)) → Option F → Result (Unit {0}) ProgramFault → Type 0
NotOpened known None result = result ≡ Err faults.File
NotOpened known (Some file) result = (fault : ImageFault) × (result ≡ Err (faults.Image fault)) × Explains (known file) fault

-- the device is what the image in the file says
abbrev pub Opens : {F : Type 0} → (F → Option (List ℕ)) → Option F → Device → Type 0
Opens known None opened = ⊥
Opens {F} known (Some file) opened = (image : ImageNand F) × OpensAs (known file) image × (opened ≡ device image)

-- the device in memory is the flash of the image, powered up
abbrev pub IsCopy : {F : Type 0} → (F → Option (List ℕ)) → Option F → Device → Type 0
IsCopy known image copy = (opened : Device) × Opens known image opened × PowersUp opened copy

-- lines over an image: where it does not open none is read and nothing is written, else as they do over its device
abbrev pub RunEnds : {F N : Type 0} → (F → Option (List ℕ)) → Ghosts (TrustedNand N) → Option F → (input output : Stream) → Result (Unit {0}) ProgramFault → Type 0
RunEnds known trusted image input output result =
    (NotOpened known image result × IsUntouched input × IsUntouched output)
    ⊎ ((before : Device) × (after : Device) × Opens known image before × LinesEnd trusted before input output after result)

-- the check of an image, on a copy of it
abbrev pub ImageCheckEnds : {F N : Type 0} → (F → Option (List ℕ)) → Ghosts (TrustedNand N) → Option F → Stream → Result (Unit {0}) ProgramFault → Type 0
ImageCheckEnds known trusted image output result =
    (NotOpened known image result × IsUntouched output)
    ⊎ ((copy : Device) × (after : Device) × IsCopy known image copy × CheckEnds trusted copy output after result)

-- a fault of a script
abbrev pub of_script : ScriptFault → ProgramFault
of_script scripts.Read = faults.Shell shells.Read
of_script scripts.TooLong = faults.Shell shells.TooLong
of_script scripts.NoMemory = faults.NoMemory
of_script scripts.Line = faults.Line

-- a fault of sessions that are cut
abbrev pub of_cut : CutFault → ProgramFault
of_cut cuts.NoMemory = faults.NoMemory
of_cut (cuts.Mount fault) = faults.Mount fault
of_cut cuts.Unmount = faults.Unmount
of_cut cuts.Unread = faults.Unread
of_cut cuts.Torn = faults.Torn
of_cut cuts.Write = faults.Write

-- how sessions that are cut end
abbrev pub cut_ended : Result (Unit {0}) CutFault → Result (Unit {0}) ProgramFault
cut_ended (Ok done) = Ok done
cut_ended (Err fault) = Err (of_cut fault)

-- the lines were read as a script, or the fault of that is reported
abbrev pub ReadsInput : Stream → Result (Vec Stamped) ProgramFault → Type 0
ReadsInput input (Ok script) = ReadsScript input.before input.after (Ok script)
ReadsInput input (Err reported) = (fault : ScriptFault) × ReadsScript input.before input.after (Err fault) × (reported ≡ of_script fault)

-- the lines were no script, and nothing is written
abbrev pub NoScript : (input output : Stream) → Result (Unit {0}) ProgramFault → Type 0
NoScript input output result =
    (fault : ScriptFault) × ReadsScript input.before input.after (Err fault) × (result ≡ Err (of_script fault)) × IsUntouched output

-- The commands of the lines were done in sessions that are cut at calls that the seed draws, on a copy of the flash, and the sessions
-- reported; a fault of them has its cause.
abbrev pub ScriptCut : Device → (seed sessions : ℕ) → (input output : Stream) → Result (Unit {0}) ProgramFault → Type 0
ScriptCut opened seed sessions input output result =
    (copy : Device) × (script : Vec Stamped) × (ended : Result (Unit {0}) CutFault) × PowersUp opened copy × ReadsScript input.before input.after (Ok script)
    × Cuts (record { first = copy; seed = seed; commands = script.items; sessions = sessions }) output.before output.after ended × IfErr ended (HasCause copy) × (result ≡ cut_ended ended)

-- sessions that are cut, on a copy of an image: it does not open; or the lines are no script; or they are done, and the
-- seed draws the calls
abbrev pub CutEnds : {F : Type 0} → (F → Option (List ℕ)) → Option F → (seed sessions : ℕ) → (input output : Stream) → Result (Unit {0}) ProgramFault → Type 0
CutEnds known image seed sessions input output result =
    (NotOpened known image result × IsUntouched input × IsUntouched output)
    ⊎ ((opened : Device) × Opens known image opened × (NoScript input output result ⊎ ScriptCut opened seed sessions input output result))

-- no image was made: there is no file, or the sizes are none of a device, or memory was refused or the file not written
abbrev pub NotMade : {F : Type 0} → Option F → (size pages blocks : ℕ) → Result (Unit {0}) ProgramFault → Type 0
NotMade None size pages blocks result = result ≡ Err faults.File
NotMade (Some file) size pages blocks result =
    ((result ≡ Err faults.BadGeometry) × (¬ IsSize size pages blocks))
    ⊎ (IsSize size pages blocks × ((result ≡ Err (faults.Image images.Write)) ⊎ (result ≡ Err (faults.Image images.NoMemory))))

-- the device has these sizes
pub record HasSizes (size pages blocks : ℕ) (made : Device) : Type 0 where
  pub bytes_are : made.geometry.bytes ≡ size
  pub pages_are : made.geometry.pages ≡ pages
  pub blocks_are : made.geometry.blocks ≡ blocks

-- a new image: honest, with power, all pages erased, every count 0
pub record IsNew (made : Device) : Type 0 where
  pub honest : made.honest ≡ true
  pub has_power : made.gone ≡ false
  pub blank : IsBlank made.flash
  pub counts : CountsNothing made

-- a new volume in an image
abbrev pub MakeEnds : {F N : Type 0} → Ghosts (TrustedNand N) → Option F → (size pages blocks spare : ℕ) → Stream → Result (Unit {0}) ProgramFault → Type 0
MakeEnds trusted image size pages blocks spare output result =
    (NotMade image size pages blocks result × IsUntouched output)
    ⊎ ((made : Device) × (after : Device) × HasSizes size pages blocks made × IsNew made × FormatEnds trusted spare made output after result)
