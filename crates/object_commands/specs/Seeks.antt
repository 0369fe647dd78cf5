-- What Seek does.
use Rattle.std.specs.Prelude.{◌≡◌, ℕ, Some, length, Result, ℤ, pos, ◌+ℤ◌}
use Rattle.std.specs.FinMap as map
use Rattle.volume_terms.specs.Sizes.{Sizes}
use Rattle.posix_profile.specs.HandleSteps.{at_file, seek_origin, seek_to}
use Rattle.posix_profile.specs.State.{State}
use Rattle.posix_profile.specs.declared.command.Whence.{Whence}
use Rattle.posix_profile.specs.declared.reply.Errno.{Errno}
use Rattle.posix_profile.specs.declared.reply.Errno.TheVariants as errors
use Rattle.command_plans.specs.Classes.{Reporting}
use Rattle.command_plans.specs.Plans.{Tries}
use Rattle.command_plans.specs.Tables.{handle_of}
use Rattle.command_plans.specs.declared.plan.Plan.{Plan}
use Rattle.command_plans.specs.declared.table.OpenDescription.{OpenDescription}

-- Of what the descriptor refers to: a plan for the seek, or the error that is meant.
abbrev pub SeeksOn : ℕ → OpenDescription → ℤ → Whence → Result Plan Errno → Sizes → State → Type 0
SeeksOn fd description offset whence r z s = map.get s.handles fd ≡ Some (handle_of description)
    → Tries z Reporting s (at_file s (map.get s.objects description.object) errors.EINVAL
    (λ bytes. seek_to s fd (handle_of description) (pos (seek_origin whence description.offset (length bytes)) +ℤ offset))) r
