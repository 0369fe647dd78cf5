-- What is reported of an end.
use Rattle.std.proofs.Common.{◌≡◌, ◌⊎◌, ℕ, List, [], ◌∷◌, ◌++◌, Option, Result, Ok, Err, inl, inr, refl, codes}
use Rattle.std.specs.Io.KnownBytes.{Appends}
use Rattle.line_shell.specs.Replies.{newline}
use Rattle.line_shell.specs.Written.{AppendsPart, Writes}
use Rattle.flash_program.specs.Statuses.{fault_name, error_line}
use Rattle.flash_program.specs.declared.fault.ProgramFault.{ProgramFault}
use Rattle.flash_program.specs.declared.fault.ProgramFault.TheVariants as faults

-- a text is written, or a first part of it
pub written_part : {E : Type 0} (old new : Option (List ℕ)) (text : List ℕ) (r : Result (Unit {0}) E) → Writes old new text r → Appends old new text ⊎ AppendsPart old new text
written_part old new text (Ok done) wrote = inl wrote
written_part old new text (Err fault) wrote = inr wrote

-- the line of a fault that no other line reported
pub line_is : (fault : ProgramFault) → (fault ≡ faults.Torn → ⊥) → error_line (Err fault) ≡ codes "fault " ++ (fault_name fault ++ (newline ∷ []))
line_is faults.NoMemory other = refl
line_is faults.BadGeometry other = refl
line_is faults.File other = refl
line_is (faults.Image fault) other = refl
line_is (faults.Format fault) other = refl
line_is (faults.Mount fault) other = refl
line_is (faults.Shell fault) other = refl
line_is faults.Unmount other = refl
line_is faults.Line other = refl
line_is faults.Unread other = refl
line_is faults.Torn other = absurd (other refl)
line_is faults.Write other = refl
