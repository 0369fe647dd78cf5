-- What a request means: the command of the same bytes.
use Rattle.posix_profile.specs.declared.command.Command.{Command}
use Rattle.posix_profile.specs.declared.command.Command.TheVariants as commands
use Rattle.posix_profile.specs.declared.command.Stamped.{Stamped}
use Rattle.posix_profile.specs.declared.request.StampedRequest.{StampedRequest}
use Rattle.posix_profile.specs.declared.request.Request.{Request}
use Rattle.posix_profile.specs.declared.request.Request.TheVariants as requests

-- the command of the same bytes
abbrev pub command_of : Request → Command
command_of (requests.Open path flags) = commands.Open path.now flags
command_of (requests.Close fd) = commands.Close fd
command_of (requests.Read fd count) = commands.Read fd count
command_of (requests.Write fd bytes) = commands.Write fd bytes.now
command_of (requests.Seek fd offset whence) = commands.Seek fd offset whence
command_of (requests.Truncate fd size) = commands.Truncate fd size
command_of (requests.Fsync fd) = commands.Fsync fd
command_of requests.Sync = commands.Sync
command_of (requests.Stat path) = commands.Stat path.now
command_of (requests.Mkdir path) = commands.Mkdir path.now
command_of (requests.Rmdir path) = commands.Rmdir path.now
command_of (requests.Link old new) = commands.Link old.now new.now
command_of (requests.Unlink path) = commands.Unlink path.now
command_of (requests.Rename old new) = commands.Rename old.now new.now
command_of (requests.List path) = commands.List path.now
command_of requests.Space = commands.Space

-- the same with the moment that its changes get
abbrev pub stamped_of : StampedRequest → Stamped
stamped_of issued = record { moment = issued.moment; command = command_of issued.request }
