-- The replies to a list of commands, and the state after them.
-- From: this project.
use Rattle.std.specs.Prelude.{◌≡◌, ◌⊎◌, Bool, true, false, List, [], ◌∷◌, if◌then◌else◌}
use Rattle.volume_terms.specs.Sizes.{Sizes}
use Rattle.posix_profile.specs.State.{State}
use Rattle.posix_profile.specs.Steps.{step}
use Rattle.posix_profile.specs.declared.command.Command.{Command}
use Rattle.posix_profile.specs.declared.command.Command.TheVariants as commands
use Rattle.posix_profile.specs.declared.command.Stamped.{Stamped}
use Rattle.posix_profile.specs.declared.reply.Errno.TheVariants as errors
use Rattle.posix_profile.specs.declared.reply.Reply.{Reply}
use Rattle.posix_profile.specs.declared.reply.Reply.TheVariants as replies

-- whether the command was passed over for want of memory
abbrev pub is_no_memory : Reply → Bool
is_no_memory (replies.Error errors.ENOMEM) = true
is_no_memory reply = false

-- whether the volume is stopped
abbrev pub is_stop : Reply → Bool
is_stop (replies.Error errors.EIO) = true
is_stop reply = false

-- whether a command takes no memory, and so never answers ENOMEM
abbrev pub takes_no_memory : Command → Bool
takes_no_memory (commands.Close fd) = true
takes_no_memory (commands.Seek fd offset whence) = true
takes_no_memory (commands.Fsync fd) = true
takes_no_memory commands.Sync = true
takes_no_memory commands.Space = true
takes_no_memory command = false

-- the state after a command with this reply: one answered ENOMEM or EIO is passed over
abbrev pub after_one : Sizes → Bool → State → Stamped → Reply → State
after_one z read_only s command reply = if is_no_memory reply then s else (if is_stop reply then s else (step z read_only s command).state)

-- the state after the commands that are answered
abbrev pub after : Sizes → Bool → State → List Stamped → List Reply → State
after z read_only s commands [] = s
after z read_only s [] (reply ∷ replies) = s
after z read_only s (command ∷ commands) (reply ∷ replies) = after z read_only (after_one z read_only s command reply) commands replies

-- a reply is the step's, or want of memory of a command that takes some, or the stop
abbrev pub Replies : Sizes → Bool → State → Stamped → Reply → Type 0
Replies z read_only s command reply =
    (reply ≡ (step z read_only s command).reply) ⊎ ((is_no_memory reply ≡ true) × (takes_no_memory command.command ≡ false)) ⊎ (is_stop reply ≡ true)

-- all these are the stop
abbrev pub AllStopped : List Reply → Type 0
AllStopped [] = Unit {0}
AllStopped (reply ∷ replies) = (is_stop reply ≡ true) × AllStopped replies

-- after a stop all are the stop
abbrev pub StopsFor : Reply → List Reply → Type 0
StopsFor reply replies = is_stop reply ≡ true → AllStopped replies

-- each reply is right at its state, and after one EIO all are EIO; there are no more replies than commands
abbrev pub RunHolds : Sizes → Bool → State → List Stamped → List Reply → Type 0
RunHolds z read_only s commands [] = Unit {0}
RunHolds z read_only s [] (reply ∷ replies) = ⊥
RunHolds z read_only s (command ∷ commands) (reply ∷ replies) =
    Replies z read_only s command reply × StopsFor reply replies × RunHolds z read_only (after_one z read_only s command reply) commands replies
