-- What Write does.
use Rattle.std.specs.Prelude.{◌≡◌, ◌<◌, ℕ, List, length, nat_eq, Result}
use Rattle.std.specs.FinMap as map
use Rattle.volume_terms.specs.Sizes.{Sizes, descriptors}
use Rattle.posix_profile.specs.HandleSteps.{write_count}
use Rattle.posix_profile.specs.Outcomes.{Outcome}
use Rattle.posix_profile.specs.State.{Handle, State, IsFile}
use Rattle.posix_profile.specs.declared.reply.Errno.{Errno}
use Rattle.object_store.specs.Facts.{bytes_of}
use Rattle.command_plans.specs.Classes.{Changing, reports_if}
use Rattle.command_plans.specs.Plans.{Tries}
use Rattle.command_plans.specs.Tables.{handle_of}
use Rattle.command_plans.specs.declared.plan.Plan.{Plan}
use Rattle.command_plans.specs.declared.table.OpenDescription.{OpenDescription}

-- this holds, of what a descriptor that there is represents, if it is a file, and of the bytes of the file
abbrev pub OfOpenFile : State → ℕ → OpenDescription → (Handle → List ℕ → Type 0) → Type 0
OfOpenFile s fd description A = IsFile s.objects description.object → fd < descriptors → A (handle_of description) (bytes_of (map.get s.objects description.object))

-- Of a write of these bytes, which changes nothing where there are none: a plan for what is meant, or the error that is meant.
abbrev pub TriesWrite : Sizes → State → List ℕ → Outcome → Result Plan Errno → Type 0
TriesWrite z s new meant r = Tries z (reports_if (nat_eq (length new) 0) Changing) s meant r

-- Of a file of this size: it is known how many of so many bytes are written, whatever they are, and at any moment.
abbrev pub CountsWrite : OpenDescription → (size count reported : ℕ) → Sizes → State → Type 0
CountsWrite description size count reported z s = IsFile s.objects description.object → size ≡ length (bytes_of (map.get s.objects description.object))
    → (moment : ℕ) (new : List ℕ) → count ≡ length new → reported ≡ write_count z moment s (handle_of description) (bytes_of (map.get s.objects description.object)) new
