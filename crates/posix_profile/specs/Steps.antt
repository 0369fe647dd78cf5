-- What each command answers and does.
-- From: the profile, `PROFILE.md`.
use Rattle.std.specs.Prelude.{ℕ, Bool}
use Rattle.volume_terms.specs.Sizes.{Sizes}
use Rattle.posix_profile.specs.State.{State}
use Rattle.posix_profile.specs.Outcomes.{Outcome, answer}
use Rattle.posix_profile.specs.HandleSteps.{open_step, close_step, read_step, write_step, seek_step, truncate_step, fsync_step}
use Rattle.posix_profile.specs.NameSteps.{stat_step, mkdir_step, rmdir_step, link_step, unlink_step, rename_step, list_step, space_step}
use Rattle.posix_profile.specs.declared.command.Command.{Command}
use Rattle.posix_profile.specs.declared.command.Command.TheVariants as commands
use Rattle.posix_profile.specs.declared.command.Stamped.{Stamped}
use Rattle.posix_profile.specs.declared.reply.Reply.TheVariants as replies

-- the reply to a command at a moment, on a volume that may be read-only, and the state after it
unfoldable pub step_at : Sizes → Bool → State → ℕ → Command → Outcome
step_at z read_only s moment (commands.Open path flags) = open_step z read_only moment s path flags
step_at z read_only s moment (commands.Close fd) = close_step s fd
step_at z read_only s moment (commands.Read fd count) = read_step s fd count
step_at z read_only s moment (commands.Write fd bytes) = write_step z moment s fd bytes
step_at z read_only s moment (commands.Seek fd offset whence) = seek_step s fd offset whence
step_at z read_only s moment (commands.Truncate fd length) = truncate_step z moment s fd length
step_at z read_only s moment (commands.Fsync fd) = fsync_step s fd
step_at z read_only s moment commands.Sync = answer s replies.Done
step_at z read_only s moment (commands.Stat path) = stat_step s path
step_at z read_only s moment (commands.Mkdir path) = mkdir_step z read_only moment s path
step_at z read_only s moment (commands.Rmdir path) = rmdir_step read_only moment s path
step_at z read_only s moment (commands.Link old new) = link_step z read_only moment s old new
step_at z read_only s moment (commands.Unlink path) = unlink_step read_only moment s path
step_at z read_only s moment (commands.Rename old new) = rename_step z read_only moment s old new
step_at z read_only s moment (commands.List path) = list_step s path
step_at z read_only s moment commands.Space = space_step z s

-- the same, of a stamped command
abbrev pub step : Sizes → Bool → State → Stamped → Outcome
step z read_only s stamped = step_at z read_only s stamped.moment stamped.command
