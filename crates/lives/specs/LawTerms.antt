-- What the laws of lives speak of.
-- From: this project.
use Rattle.std.specs.Prelude.{◌≡◌, ◌⊎◌, ◌++◌, ◌+◌, ℕ, true, false, ◌∷◌, Some}
use Rattle.std.specs.List.{All, list_any}
use Rattle.volume_terms.specs.Sizes.{Sizes, IsSizes}
use Rattle.posix_profile.specs.Charge.{fits}
use Rattle.posix_profile.specs.Losses.{IsSyncDone}
use Rattle.posix_profile.specs.Names.{settle}
use Rattle.posix_profile.specs.Runs.{is_stop, RunHolds}
use Rattle.posix_profile.specs.State.{Objects}
use Rattle.posix_profile.specs.WellFormed.{IsTree}
use Rattle.posix_profile.specs.laws.Step.{AreStamped}
use Rattle.posix_profile.specs.declared.reply.Reply.{Reply}
use Rattle.posix_profile.specs.declared.reply.Reply.TheVariants as replies
use Rattle.lives.specs.Lives.{Mounted, NoMemory, SessionRecord, Sessions, at_mount, KeepsPrefix, IsLife}
use Rattle.lives.specs.PlainLives.{step_replies}

-- a tree that a mount can show, and for which the volume has room
pub record IsFittingTree (z : Sizes) (tree : Objects) : Type 0 where
  pub is_tree : IsTree z tree
  pub fit : fits z tree ≡ true

-- a tree that fits, and that a mount shows as it is
pub record StaysShown (z : Sizes) (tree : Objects) : Type 0 where
  pub fitting : IsFittingTree z tree
  pub again : (settle (at_mount tree)).objects ≡ tree

-- the commands of each session are as their types allow
abbrev pub AreStampedSessions : Sessions → Type 0
AreStampedSessions sessions = All (λ (session : SessionRecord). AreStamped session.commands) sessions

-- What a volume can begin with: sizes that a volume can have, a tree that fits, and sessions of commands as their types allow.
pub record CanBegin (z : Sizes) (first : Objects) (sessions : Sessions) : Type 0 where
  pub sizes : IsSizes z
  pub tree : IsFittingTree z first
  pub stamped : AreStampedSessions sessions

-- The earlier sessions are a life to some tree, and the later ones are one from it,
pub record AreInTurn (z : Sizes) (first : Objects) (earlier later : Sessions) (last : Objects) : Type 0 where
  pub between : Objects
  pub before : IsLife z first earlier between
  pub after : IsLife z between later last

-- and the tree between them is one that stays
pub record AreSoundlyInTurn (z : Sizes) (first : Objects) (earlier later : Sessions) (last : Objects) : Type 0 where
  pub turn : AreInTurn z first earlier later last
  pub shown : StaysShown z turn.between

-- the session is one of a life, after some sessions and before some
pub record IsInLife (z : Sizes) (first : Objects) (session : SessionRecord) (last : Objects) : Type 0 where
  pub earlier : Sessions
  pub later : Sessions
  pub life : IsLife z first (earlier ++ session ∷ later) last

-- from the tree that the sessions before it left, the replies of the session are those of the profile's steps
pub record RepliesAsSteps {z : Sizes} {first last : Objects} {session : SessionRecord} (place : IsInLife z first session last) : Type 0 where
  pub before : Objects
  pub life : IsLife z first place.earlier before
  pub steps : session.replies ≡ step_replies z (at_mount before) session.commands

-- no mount of these sessions was done
abbrev pub AreNotMounted : Sessions → Type 0
AreNotMounted sessions = All (λ (session : SessionRecord). session.mounted ≡ Mounted → ⊥) sessions

-- The mount was done, or memory was wanting; no reply is the stop; and an unmount is done.
pub record IsNotStopped (session : SessionRecord) : Type 0 where
  pub mount : (session.mounted ≡ Mounted) ⊎ (session.mounted ≡ NoMemory)
  pub commands : list_any is_stop session.replies ≡ false
  pub unmount : (reply : Reply) → session.unmounted ≡ Some reply → reply ≡ replies.Done

-- the last command that was begun is a sync, and it is done
pub record EndsSynced (session : SessionRecord) : Type 0 where
  pub at : ℕ
  pub synced : IsSyncDone session.commands session.replies at
  pub last : at + 1 ≡ session.begun

-- A session of a life and the next one after it: the sessions before both, those between, whose mounts fail, and those after.
pub record Followed : Type 0 where
  pub earlier : Sessions
  pub session : SessionRecord
  pub failed : Sessions
  pub next : SessionRecord
  pub later : Sessions

-- all of them in turn
abbrev pub sessions_of : Followed → Sessions
sessions_of f = f.earlier ++ f.session ∷ (f.failed ++ f.next ∷ f.later)

-- both sessions were mounted, and none between them was
pub record AreNextMounts (f : Followed) : Type 0 where
  pub session : f.session.mounted ≡ Mounted
  pub failed : AreNotMounted f.failed
  pub next : f.next.mounted ≡ Mounted

-- From the tree that the earlier sessions left there is one after a prefix of the session's commands, at least all that a done sync
-- covers, and the replies of the next session are the profile's from that one.
pub record ShowsPrefix (z : Sizes) (first : Objects) (f : Followed) : Type 0 where
  pub before : Objects
  pub after : Objects
  pub life : IsLife z first f.earlier before
  pub keeps : KeepsPrefix z before f.session after
  pub replies : RunHolds z false (at_mount after) f.next.commands f.next.replies
