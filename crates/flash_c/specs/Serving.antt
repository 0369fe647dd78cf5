-- How a session serves commands.
use Rattle.std.specs.Prelude.{ℕ, Result}
use Rattle.page_store.specs.PagesOf.{mounted_pages}
use Rattle.posix_calls.specs.Calls.{IsCalled}
use Rattle.posix_calls.specs.Describing.{IsDescribed}
use Rattle.posix_calls.specs.Volumes.{over_pages}
use Rattle.posix_profile.specs.declared.command.Stamped.{Stamped}
use Rattle.posix_profile.specs.declared.reply.Errno.{Errno}
use Rattle.posix_profile.specs.declared.reply.Info.{Info}
use Rattle.posix_profile.specs.declared.reply.Reply.{Reply}
use Rattle.flash_c.specs.declared.session.Session.{Session}

-- one call: the session before it, the command, the reply, and the session after it
unfoldable pub serves : Session → Stamped → Reply → Session → Type 0
serves old command reply new = IsCalled mounted_pages (over_pages old.volume) command reply (over_pages new.volume)

-- what is reported of a descriptor
unfoldable pub describes : Session → ℕ → Result Info Errno → Type 0
describes session fd reported = IsDescribed mounted_pages (over_pages session.volume) fd reported
