-- What the program's end reports: its exit status, and the line on standard error.
use Rattle.std.specs.Prelude.{◌⊎◌, ℕ, List, [], ◌∷◌, ◌++◌, Option, Result, Ok, Err, codes}
use Rattle.std.specs.Io.KnownBytes.{Appends}
use Rattle.exerciser.specs.Lines.{mount_name}
use Rattle.formatting.specs.declared.fault.FormatFault.{FormatFault}
use Rattle.formatting.specs.declared.fault.FormatFault.TheVariants as formats
use Rattle.line_shell.specs.Replies.{newline}
use Rattle.line_shell.specs.Written.{AppendsPart}
use Rattle.line_shell.specs.declared.fault.ShellFault.{ShellFault}
use Rattle.line_shell.specs.declared.fault.ShellFault.TheVariants as shells
use Rattle.nand_image.specs.declared.fault.ImageFault.{ImageFault}
use Rattle.nand_image.specs.declared.fault.ImageFault.TheVariants as images
use Rattle.flash_program.specs.declared.fault.ProgramFault.{ProgramFault}
use Rattle.flash_program.specs.declared.fault.ProgramFault.TheVariants as faults

-- the name of an image's fault
abbrev pub image_name : ImageFault → List ℕ
image_name images.Read = codes "Read"
image_name images.Write = codes "Write"
image_name images.Size = codes "Size"
image_name images.Magic = codes "Magic"
image_name images.BadGeometry = codes "BadGeometry"
image_name images.NoMemory = codes "NoMemory"

-- the name of a format's fault
abbrev pub format_name : FormatFault → List ℕ
format_name formats.Spare = codes "Spare"
format_name formats.NoMemory = codes "NoMemory"
format_name formats.Worn = codes "Worn"
format_name formats.Gone = codes "Gone"

-- the name of a shell's fault
abbrev pub shell_name : ShellFault → List ℕ
shell_name shells.Read = codes "Read"
shell_name shells.TooLong = codes "TooLong"
shell_name shells.Write = codes "Write"
shell_name shells.NoMemory = codes "NoMemory"

-- the name that is reported of a fault
abbrev pub fault_name : ProgramFault → List ℕ
fault_name faults.NoMemory = codes "NoMemory"
fault_name faults.BadGeometry = codes "BadGeometry"
fault_name faults.File = codes "File"
fault_name (faults.Image fault) = image_name fault
fault_name (faults.Format fault) = format_name fault
fault_name (faults.Mount fault) = mount_name fault
fault_name (faults.Shell fault) = shell_name fault
fault_name faults.Unmount = codes "EIO"
fault_name faults.Line = codes "Line"
fault_name faults.Unread = codes "Unread"
fault_name faults.Torn = codes "Torn"
fault_name faults.Write = codes "Write"

-- the status of a fault: 3 a torn tree; 4 the shell, a script or standard output; 2 all else
abbrev pub fault_status : ProgramFault → ℕ
fault_status faults.NoMemory = 2
fault_status faults.BadGeometry = 2
fault_status faults.File = 2
fault_status (faults.Image fault) = 2
fault_status (faults.Format fault) = 2
fault_status (faults.Mount fault) = 2
fault_status (faults.Shell fault) = 4
fault_status faults.Unmount = 2
fault_status faults.Line = 4
fault_status faults.Unread = 2
fault_status faults.Torn = 3
fault_status faults.Write = 4

-- the status of an end: 0 where all is well
abbrev pub status_of : Result (Unit {0}) ProgramFault → ℕ
status_of (Ok done) = 0
status_of (Err fault) = fault_status fault

-- the line on standard error: `fault` and the name, and none of what is well or of a torn tree, which has its own line
abbrev pub error_line : Result (Unit {0}) ProgramFault → List ℕ
error_line (Ok done) = []
error_line (Err faults.Torn) = []
error_line (Err fault) = codes "fault " ++ (fault_name fault ++ (newline ∷ []))

-- the line is out, or a first part of it where the writing failed
abbrev pub IsReported : Option (List ℕ) → Option (List ℕ) → Result (Unit {0}) ProgramFault → Type 0
IsReported old new ended = Appends old new (error_line ended) ⊎ AppendsPart old new (error_line ended)
