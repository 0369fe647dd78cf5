-- What is reported of a descriptor.
use Rattle.std.specs.Prelude.{◌≡◌, ℕ, Some, None, Result, Ok, Err}
use Rattle.std.specs.FinMap as map
use Rattle.posix_profile.specs.NameSteps.{stat_of}
use Rattle.posix_profile.specs.Outcomes.{answer}
use Rattle.posix_profile.specs.State.{Handle, State}
use Rattle.posix_profile.specs.declared.reply.Errno.{Errno}
use Rattle.posix_profile.specs.declared.reply.Errno.TheVariants as errors
use Rattle.posix_profile.specs.declared.reply.Info.{Info}
use Rattle.posix_profile.specs.declared.reply.Reply.TheVariants as replies

-- Of an open descriptor what Stat reports of its object, also where no path leads to it; of one that is not open EBADF.
pub data Describes (s : State) (fd : ℕ) : Result Info Errno → Type 0 where
  open_on : {handle : Handle} {info : Info} → map.get s.handles fd ≡ Some handle
      → answer s (replies.Info info) ≡ stat_of s handle.object (map.get s.objects handle.object) → Describes s fd (Ok info)
  not_open : map.get s.handles fd ≡ None → Describes s fd (Err errors.EBADF)
