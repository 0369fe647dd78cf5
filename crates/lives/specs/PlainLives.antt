-- Lives in which nothing goes wrong.
-- From: this project.
use Rattle.std.specs.Prelude.{◌≡◌, false, List, [], ◌∷◌, length, map as list_map, Some}
use Rattle.std.specs.List.{All, list_any}
use Rattle.volume_terms.specs.Sizes.{Sizes}
use Rattle.posix_profile.specs.State.{Objects, State}
use Rattle.posix_profile.specs.Names.{settle}
use Rattle.posix_profile.specs.Runs.{is_no_memory}
use Rattle.posix_profile.specs.Steps.{step}
use Rattle.posix_profile.specs.declared.command.Stamped.{Stamped}
use Rattle.posix_profile.specs.declared.reply.Reply.{Reply}
use Rattle.posix_profile.specs.declared.reply.Reply.TheVariants as replies
use Rattle.lives.specs.Lives.{Mounted, SessionRecord, Sessions, at_mount}

-- the replies of the profile's steps, one after another
abbrev pub step_replies : Sizes → State → List Stamped → List Reply
step_replies z s [] = []
step_replies z s (command ∷ commands) = (step z false s command).reply ∷ step_replies z (step z false s command).state commands

-- the state after all these steps
abbrev pub step_state : Sizes → State → List Stamped → State
step_state z s [] = s
step_state z s (command ∷ commands) = step_state z (step z false s command).state commands

-- the tree that a mount shows after all these steps
abbrev pub plain_tree : Sizes → Objects → List Stamped → Objects
plain_tree z before commands = (settle (step_state z (at_mount before) commands)).objects

-- a session in which all commands are done as the profile's steps, and the volume is unmounted
abbrev pub plain_session : Sizes → Objects → List Stamped → SessionRecord
plain_session z before commands = record {
  mounted = Mounted;
  commands = commands;
  begun = length commands;
  replies = step_replies z (at_mount before) commands;
  unmounted = Some replies.Done;
  cut = false;
}

-- such sessions in turn, one for each list of commands, each from the tree after the one before it
abbrev pub plain_sessions : Sizes → Objects → List (List Stamped) → Sessions
plain_sessions z first [] = []
plain_sessions z first (commands ∷ rest) = plain_session z first commands ∷ plain_sessions z (plain_tree z first commands) rest

-- the tree after them all
abbrev pub plain_end : Sizes → Objects → List (List Stamped) → Objects
plain_end z first [] = first
plain_end z first (commands ∷ rest) = plain_end z (plain_tree z first commands) rest

-- the commands of each session
abbrev pub commands_of : Sessions → List (List Stamped)
commands_of sessions = list_map (λ (session : SessionRecord). session.commands) sessions

-- these sessions and the last tree are those of the plain run of all their commands
pub record IsPlainRun (z : Sizes) (first : Objects) (sessions : Sessions) (last : Objects) : Type 0 where
  pub each : sessions ≡ plain_sessions z first (commands_of sessions)
  pub left : last ≡ plain_end z first (commands_of sessions)

-- The session was mounted, power was not lost in it, and memory was not refused.
pub record IsUndisturbed (session : SessionRecord) : Type 0 where
  pub mounted : session.mounted ≡ Mounted
  pub cut : session.cut ≡ false
  pub memory : list_any is_no_memory session.replies ≡ false

-- nothing goes wrong in the session, and at its end it is unmounted
abbrev pub IsWhole : SessionRecord → Type 0
IsWhole session = IsUndisturbed session × (session.unmounted ≡ Some replies.Done)

-- so of all these sessions
abbrev pub AreWhole : Sessions → Type 0
AreWhole sessions = All IsWhole sessions
