-- What a volume keeps over many times that power comes on, each of which may end at any moment.
-- From: this project; `fsync()` and `sync()` of POSIX.
use Rattle.std.specs.Prelude.{◌≡◌, ◌⊎◌, ◌++◌, ◌≤◌, ℕ, Bool, true, false, List, [], ◌∷◌, length, Option, Some, None}
use Rattle.std.specs.List.{list_any}
use Rattle.std.specs.FinMap as map
use Rattle.volume_terms.specs.Sizes.{Sizes}
use Rattle.posix_profile.specs.State.{Objects, State}
use Rattle.posix_profile.specs.Runs.{is_stop, RunHolds}
use Rattle.posix_profile.specs.Losses.{Covers, settled_after}
use Rattle.posix_profile.specs.declared.command.Stamped.{Stamped}
use Rattle.posix_profile.specs.declared.reply.Errno.TheVariants as errors
use Rattle.posix_profile.specs.declared.reply.Reply.{Reply}
use Rattle.posix_profile.specs.declared.reply.Reply.TheVariants as replies

-- how a mount answers: by a volume, by want of memory, by the loss of power, or by a fault that it finds on the flash
pub data MountAnswer : Type 0 where
  Mounted : MountAnswer
  NoMemory : MountAnswer
  Gone : MountAnswer
  Faulty : MountAnswer

-- What is recorded of a session, from the moment that power comes on: how the mount answered; the commands that were handed in, how
-- many of them were begun, and the replies; how the unmount answered, if there was one; whether the device had a loss of power.
pub record SessionRecord : Type 0 where
  pub mounted : MountAnswer
  pub commands : List Stamped
  pub begun : ℕ
  pub replies : List Reply
  pub unmounted : Option Reply
  pub cut : Bool

-- sessions in turn
abbrev pub Sessions : Type 0
Sessions = List SessionRecord

-- the state that a session begins with: the tree, and no descriptor
abbrev pub at_mount : Objects → State
at_mount tree = record { objects = tree; handles = map.empty }

-- The mount failed, for want of memory or because power was lost in it. Nothing was begun, and the tree stays.
pub record FailsToMount (before : Objects) (session : SessionRecord) (after : Objects) : Type 0 where
  pub mounted : (session.mounted ≡ NoMemory) ⊎ (session.mounted ≡ Gone)
  pub begun : session.begun ≡ 0
  pub replies : session.replies ≡ []
  pub unmounted : session.unmounted ≡ None
  pub tree : after ≡ before

-- the last reply is the stop
abbrev pub EndsStopped : List Reply → Type 0
EndsStopped reported = (before : List Reply) × (reported ≡ before ++ replies.Error errors.EIO ∷ [])

-- what a mount shows of the state after the first so many commands of a session
abbrev pub tree_after : Sizes → Objects → SessionRecord → ℕ → Objects
tree_after z before session count = settled_after z false (at_mount before) session.commands session.replies count

-- The tree after the session is what a mount shows of the state after the first so many commands: at least those up to and with the
-- last sync that is done, and all that were begun where the unmount is done.
pub record KeepsPrefix (z : Sizes) (before : Objects) (session : SessionRecord) (after : Objects) : Type 0 where
  pub count : ℕ
  pub covers : Covers session.commands session.replies count
  pub within : count ≤ session.begun
  pub unmounted : session.unmounted ≡ Some replies.Done → count ≡ session.begun
  pub tree : after ≡ tree_after z before session count

-- The mount was done. Each command that was begun has a reply, which is the profile's; all were begun, unless the volume was stopped;
-- an unmount is done or stopped; and the tree after the session is that of some of its commands.
pub record Serves (z : Sizes) (before : Objects) (session : SessionRecord) (after : Objects) : Type 0 where
  pub mounted : session.mounted ≡ Mounted
  pub answered : length session.replies ≡ session.begun
  pub run : RunHolds z false (at_mount before) session.commands session.replies
  pub begun : (session.begun ≡ length session.commands) ⊎ EndsStopped session.replies
  pub unmounted : (reply : Reply) → session.unmounted ≡ Some reply → (reply ≡ replies.Done) ⊎ (reply ≡ replies.Error errors.EIO)
  pub keeps : KeepsPrefix z before session after

-- Nothing is answered by the loss of power, nor by the stop, where power was not lost.
pub record StopsAtCuts (session : SessionRecord) : Type 0 where
  pub mount : session.mounted ≡ Gone → session.cut ≡ true
  pub commands : list_any is_stop session.replies ≡ true → session.cut ≡ true
  pub unmount : session.unmounted ≡ Some (replies.Error errors.EIO) → session.cut ≡ true

-- A session from one tree to another.
pub record IsSessionFrom (z : Sizes) (before : Objects) (session : SessionRecord) (after : Objects) : Type 0 where
  pub ends : FailsToMount before session after ⊎ Serves z before session after
  pub cuts : StopsAtCuts session

-- a life from one tree to another: sessions in turn, each from the tree that the one before it left
abbrev pub IsLife : Sizes → Objects → Sessions → Objects → Type 0
IsLife z first [] last = last ≡ first
IsLife z first (session ∷ sessions) last = (between : Objects) × IsSessionFrom z first session between × IsLife z between sessions last
