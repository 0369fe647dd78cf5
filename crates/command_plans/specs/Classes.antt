-- What kinds of commands there are.
use Rattle.std.specs.Prelude.{ℕ, Bool, true, false, not, ◌&&◌, length, nat_eq, Option, Some, None, is_some, Result, Ok, Err, if◌then◌else◌}
use Rattle.posix_profile.specs.NameSteps.{is_object}
use Rattle.posix_profile.specs.Paths.{Place, resolve}
use Rattle.posix_profile.specs.State.{State}
use Rattle.posix_profile.specs.declared.command.Command.{Command}
use Rattle.posix_profile.specs.declared.command.Command.TheVariants as commands
use Rattle.posix_profile.specs.declared.reply.Errno.{Errno}
use Rattle.posix_profile.specs.declared.reply.Reply.{Reply}
use Rattle.posix_profile.specs.declared.reply.Reply.TheVariants as replies

-- a command only reads the objects, or may change them, or makes them last
pub data Class : Type 0 where
  Reporting : Class
  Changing : Class
  Syncing : Class

-- a command that says where this is so, and else is of this kind
abbrev pub reports_if : Bool → Class → Class
reports_if reports class = if reports then Reporting else class

-- whether a path leads to an object
abbrev pub is_there : Result Place Errno → Bool
is_there (Err error) = false
is_there (Ok place) = is_some place.object

-- whether there is an object, and the other is the same
abbrev pub is_one : Option ℕ → Option ℕ → Bool
is_one None other = false
is_one (Some o) other = is_object o other

-- whether both paths lead to one object
abbrev pub lead_to_one : Result Place Errno → Result Place Errno → Bool
lead_to_one (Err error) to = false
lead_to_one (Ok from) (Err error) = false
lead_to_one (Ok from) (Ok to) = is_one from.object to.object

-- The kind of a command at a state of a volume that may be read-only. Nothing changes where an object that is there is opened
-- and not cut, where no bytes are written, and where an object gets a name that it has. A read-only volume has nothing to sync.
abbrev pub class_of : Bool → State → Command → Class
class_of read_only s (commands.Open path flags) = reports_if (is_there (resolve s.objects path) && not flags.trunc) Changing
class_of read_only s (commands.Close fd) = Changing
class_of read_only s (commands.Read fd count) = Reporting
class_of read_only s (commands.Write fd bytes) = reports_if (nat_eq (length bytes) 0) Changing
class_of read_only s (commands.Seek fd offset whence) = Reporting
class_of read_only s (commands.Truncate fd length) = Changing
class_of read_only s (commands.Fsync fd) = reports_if read_only Syncing
class_of read_only s commands.Sync = reports_if read_only Syncing
class_of read_only s (commands.Stat path) = Reporting
class_of read_only s (commands.Mkdir path) = Changing
class_of read_only s (commands.Rmdir path) = Changing
class_of read_only s (commands.Link old new) = Changing
class_of read_only s (commands.Unlink path) = Changing
class_of read_only s (commands.Rename old new) = reports_if (lead_to_one (resolve s.objects old) (resolve s.objects new)) Changing
class_of read_only s (commands.List path) = Reporting
class_of read_only s commands.Space = Reporting

-- whether a command leaves the device as it is: what it asks for is reported without it
abbrev pub makes_no_call : Command → Bool
makes_no_call (commands.Close fd) = true
makes_no_call (commands.Seek fd offset whence) = true
makes_no_call commands.Space = true
makes_no_call command = false

-- whether the reply is an error
abbrev pub is_error : Reply → Bool
is_error (replies.Error error) = true
is_error reply = false
