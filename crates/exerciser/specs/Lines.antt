-- The lines that are reported of sessions.
use Rattle.std.specs.Prelude.{ℕ, List, [], ◌∷◌, ◌++◌, Option, Result, Ok, Err, codes}
use Rattle.std.specs.Io.KnownBytes.{Appends}
use Rattle.line_shell.specs.Replies.{newline, numbers_text}
use Rattle.line_shell.specs.Written.{AppendsPart}
use Rattle.mounting.specs.declared.fault.MountFault.{MountFault}
use Rattle.mounting.specs.declared.fault.MountFault.TheVariants as mounts
use Rattle.exerciser.specs.declared.fault.CutFault.{CutFault}
use Rattle.exerciser.specs.declared.fault.CutFault.TheVariants as faults
use Rattle.exerciser.specs.declared.finding.Finding.{Finding}
use Rattle.exerciser.specs.declared.finding.Finding.TheVariants as findings

-- the name of a mount's fault
abbrev pub mount_name : MountFault → List ℕ
mount_name mounts.Gone = codes "Gone"
mount_name mounts.NoMemory = codes "NoMemory"
mount_name mounts.NotAVolume = codes "NotAVolume"
mount_name (mounts.Newer format) = codes "Newer"
mount_name mounts.Damaged = codes "Damaged"

-- what was found, of so many commands: ` held K of N`, ` torn`, or ` mount` and the fault's name
abbrev pub finding_text : Finding → ℕ → List ℕ
finding_text (findings.Committed count) commands = (codes " kept" ++ numbers_text (count ∷ [])) ++ (codes " of" ++ numbers_text (commands ∷ []))
finding_text findings.Torn commands = codes " torn"
finding_text (findings.Mount fault) commands = codes " mount " ++ mount_name fault

-- the line of a session: `session I op OP`, and what was found
abbrev pub session_line : (number operation : ℕ) → Finding → (commands : ℕ) → List ℕ
session_line number operation finding commands =
    (codes "session" ++ numbers_text (number ∷ [])) ++ ((codes " op" ++ numbers_text (operation ∷ [])) ++ (finding_text finding commands ++ (newline ∷ [])))

-- the text is out, unless the writer failed
abbrev pub IsStated : Option (List ℕ) → Option (List ℕ) → List ℕ → Result (Unit {0}) CutFault → Type 0
IsStated old new text (Ok done) = Appends old new text
IsStated old new text (Err faults.Write) = AppendsPart old new text
IsStated old new text (Err fault) = ⊥
