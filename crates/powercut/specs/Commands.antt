-- The commands of a session, done one by one up to the end or to the stop, and how the volume is left behind them.
-- From: this project.
use Rattle.std.specs.Prelude.{◌≡◌, ◌⊎◌, Bool, true, false, List, length, Option, Some, None}
use Rattle.std.specs.List.{list_any}
use Rattle.volume_terms.specs.Sizes.{Sizes}
use Rattle.nand_model.specs.Calls.{Device}
use Rattle.object_store.specs.Stores.{settled}
use Rattle.page_store.specs.Sealing.{EndsOn, StaysRight}
use Rattle.posix_calls.specs.Endings.{LiesOn}
use Rattle.posix_calls.specs.PageVolumes.{pages_of, is_read_only, is_stopped, IsVolumeOf}
use Rattle.posix_calls.specs.declared.page_volume.PageVolume.{PageVolume}
use Rattle.posix_profile.specs.Losses.{is_synced, PowerLossLeaves, settled_after}
use Rattle.posix_profile.specs.Runs.{Replies, is_stop, after_one, after, RunHolds}
use Rattle.posix_profile.specs.State.{Objects, State}
use Rattle.posix_profile.specs.declared.command.Stamped.{Stamped}
use Rattle.posix_profile.specs.declared.reply.Errno.TheVariants as errors
use Rattle.posix_profile.specs.declared.reply.Reply.{Reply}
use Rattle.posix_profile.specs.declared.reply.Reply.TheVariants as replies
use Rattle.lives.specs.Lives.{EndsStopped}
use Rattle.pages.specs.State.{PagesState}
use Rattle.pages.specs.Stores.{GoesOn, HasFailed}
use Rattle.paged_objects.specs.Ending.{HasEndedAt}
use Rattle.paged_objects.specs.Representing.{Shown}

-- what a volume is: its pages, the states that it represents, whether it is stopped, and whether it can only be read
pub record Meaning (V : Type 0) : Type 1 where
  pub pages : V → PagesState
  pub represents : Sizes → State → V → Type 0
  pub stopped : V → Bool
  pub read_only : V → Bool

-- what a volume over such pages is
abbrev pub meaning_of : {V P : Type 0} → (P → PagesState) → (V → PageVolume P) → Meaning V
meaning_of state volume = record {
  pages = λ v. state (pages_of (volume v));
  represents = λ z s v. IsVolumeOf state z s (volume v);
  stopped = λ v. is_stopped (volume v);
  read_only = λ v. is_read_only (volume v);
}

-- what is true of each state that a volume represents, if it is not stopped
abbrev pub OfRunning : {V : Type 0} → Meaning V → V → (Sizes → State → Type 0) → Type 0
OfRunning m a A = m.stopped a ≡ false → (z : Sizes) (s : State) → m.represents z s a → A z s

-- What one command answers and leaves, from a state of a volume that goes on. One that is read-only is stopped by its device alone.
pub record DoesOne {V : Type 0} (m : Meaning V) (z : Sizes) (s : State) (stamped : Stamped) (reply : Reply) (a b : V) : Type 0 where
  pub right : Replies z (m.read_only a) s stamped reply
  pub represents : is_stop reply ≡ false → m.represents z (after_one z (m.read_only a) s stamped reply) b
  pub tree : (tree : Objects) → Shown z (m.pages a) tree → Shown z (m.pages b) tree ⊎ Shown z (m.pages b) (settled s.objects)
  pub synced : is_synced stamped.command reply ≡ true → Shown z (m.pages b) (settled s.objects)
  pub cause : is_stop reply ≡ true → HasEndedAt (m.pages b)
  pub failed : m.read_only a ≡ true → is_stop reply ≡ true → HasFailed (m.pages b).device

-- From a state: the replies are right, and all commands are answered unless the last reply is EIO; a mount shows the tree after
-- some of the commands, at least those that a sync covers; the volume is stopped exactly where a reply is EIO, and then for its
-- reason, of a volume that is read-only by its device alone; and else it represents the state after the commands.
pub record DoesCommands {V : Type 0} (m : Meaning V) (z : Sizes) (s : State) (commands : List Stamped) (answered : List Reply) (a b : V) : Type 0 where
  pub holds : RunHolds z (m.read_only a) s commands answered
  pub begun : (length answered ≡ length commands) ⊎ EndsStopped answered
  pub power_losses : (tree : Objects) → Shown z (m.pages a) tree → PowerLossLeaves (Shown z (m.pages b)) tree z (m.read_only a) s commands answered
  pub stops : m.stopped b ≡ list_any is_stop answered
  pub cause : m.stopped b ≡ true → HasEndedAt (m.pages b)
  pub failed : m.read_only a ≡ true → m.stopped b ≡ true → HasFailed (m.pages b).device
  pub represents : m.stopped b ≡ false → m.represents z (after z (m.read_only a) s commands answered) b

-- all commands are answered, or the last reply is EIO
abbrev pub AreBegun : List Stamped → List Reply → Type 0
AreBegun commands answered = (length answered ≡ length commands) ⊎ EndsStopped answered

-- The commands are begun one by one, up to the stop; and of a volume that goes on it is known what they do.
pub record Does {V : Type 0} (m : Meaning V) (commands : List Stamped) (answered : List Reply) (a b : V) : Type 0 where
  pub goes_on : GoesOn (m.pages a) (m.pages b)
  pub read_only : m.read_only b ≡ m.read_only a
  pub begun : m.stopped a ≡ false → AreBegun commands answered
  pub does : OfRunning m a (λ z s. DoesCommands m z s commands answered a b)

-- From a state and a tree that a mount would show: the replies are right, and all commands are answered unless the last reply is
-- EIO; the unmount, if there is one, is done or it is EIO, as a reply is, for its reason; and the pages that are left show the
-- tree after some of the commands, at least those that a sync covers, and after all of them where the unmount is done.
pub record LeavesFrom (z : Sizes) (read_only : Bool) (s : State) (tree : Objects) (commands : List Stamped) (answered : List Reply) (unmounted : Option Reply) (left : PagesState) : Type 0 where
  pub holds : RunHolds z read_only s commands answered
  pub begun : (length answered ≡ length commands) ⊎ EndsStopped answered
  pub unmounts : (reply : Reply) → unmounted ≡ Some reply → (reply ≡ replies.Done) ⊎ (reply ≡ replies.Error errors.EIO)
  pub cause : (list_any is_stop answered ≡ true) ⊎ (unmounted ≡ Some (replies.Error errors.EIO)) → HasEndedAt left
  pub failed : read_only ≡ true → (list_any is_stop answered ≡ true) ⊎ (unmounted ≡ Some (replies.Error errors.EIO)) → HasFailed left.device
  pub power_losses : PowerLossLeaves (Shown z left) tree z read_only s commands answered
  pub done : unmounted ≡ Some replies.Done → Shown z left (settled_after z read_only s commands answered (length answered))

-- What is done with a volume from its mount on: the commands, and an unmount, or none. Its device is given back: with no unmount it
-- is as the commands left it. Checkpoints stay right.
pub record IsUsed {V : Type 0} (m : Meaning V) (v : V) (commands : List Stamped) (answered : List Reply) (unmounted : Option Reply) (device : Device) : Type 0 where
  pub left : PagesState
  pub device_is : LiesOn left device
  pub ends_on : EndsOn (m.pages v) left
  pub begun : m.stopped v ≡ false → AreBegun commands answered
  pub abandoned : unmounted ≡ None → (after : V) × Does m commands answered v after × LiesOn (m.pages after) device
  pub leaves : m.stopped v ≡ false → (z : Sizes) (s : State) (tree : Objects) → m.represents z s v → Shown z (m.pages v) tree
      → LeavesFrom z (m.read_only v) s tree commands answered unmounted left
  pub right : OfRunning m v (λ z s. StaysRight (m.pages v) left)
