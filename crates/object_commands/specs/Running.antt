-- What a run of commands answers and leaves.
use Rattle.std.specs.Prelude.{◌≡◌, ◌⊎◌, ◌<◌, ◌≤◌, ◌||◌, ◌++◌, ℕ, zero, suc, Bool, true, false, List, [], ◌∷◌, length, take, All, Some, slice_get, Result, OnOk}
use Rattle.std.specs.List.{list_any}
use Rattle.posix_profile.specs.Losses.{PowerLossLeaves}
use Rattle.posix_profile.specs.Runs.{is_stop, is_no_memory, after_one, after, AllStopped, StopsFor, RunHolds}
use Rattle.volume_terms.specs.Sizes.{Sizes}
use Rattle.posix_profile.specs.State.{Objects, State}
use Rattle.posix_profile.specs.Steps.{step}
use Rattle.posix_profile.specs.declared.command.Stamped.{Stamped}
use Rattle.posix_profile.specs.declared.reply.Reply.{Reply}
use Rattle.object_store.specs.Stores.{Meaning}
use Rattle.command_plans.specs.Classes.{Reporting, class_of, is_error, makes_no_call}
use Rattle.object_commands.specs.Volumes.{store_of, is_read_only, is_stopped}
use Rattle.object_commands.specs.Endings.{IsAt, OfVolume, ReadsOrLeaves}
use Rattle.object_commands.specs.declared.volume.Volume.{Volume}

-- after a reply of EIO each reply is EIO
abbrev pub StaysStopped : List Reply → Type 0
StaysStopped [] = Unit {0}
StaysStopped (reply ∷ replies) = StopsFor reply replies × StaysStopped replies

-- whether memory was refused in the last command that was answered
abbrev pub ends_refused : List Reply → Bool
ends_refused [] = false
ends_refused (reply ∷ []) = is_no_memory reply
ends_refused (reply ∷ other ∷ replies) = ends_refused (other ∷ replies)

-- a command that changes nothing, one that the profile answers by an error, or one for which memory was refused
abbrev pub OnlyReports : Sizes → Bool → State → Stamped → Reply → Type 0
OnlyReports z read_only s stamped reply = (class_of read_only s stamped.command ≡ Reporting) ⊎ (is_error (step z read_only s stamped).reply ≡ true) ⊎ (is_no_memory reply ≡ true)

-- such a command, or one that makes no call of the device
abbrev pub WritesNothing : Sizes → Bool → State → Stamped → Reply → Type 0
WritesNothing z read_only s stamped reply = OnlyReports z read_only s stamped reply ⊎ (makes_no_call stamped.command ≡ true)

-- each of the commands that were answered is such, at its state
abbrev pub EachAnswered : (Sizes → Bool → State → Stamped → Reply → Type 0) → Sizes → Bool → State → List Stamped → List Reply → Type 0
EachAnswered such z read_only s commands [] = Unit {0}
EachAnswered such z read_only s [] (reply ∷ replies) = Unit {0}
EachAnswered such z read_only s (command ∷ commands) (reply ∷ replies) =
    such z read_only s command reply × EachAnswered such z read_only (after_one z read_only s command reply) commands replies

-- so many calls in turn, each of which leaves this
abbrev pub InTurn : {S : Type 0} → (S → S → Type 0) → ℕ → S → S → Type 0
InTurn left zero a b = b ≡ a
InTurn {S} left (suc n) a b = (x : S) × InTurn left n a x × left x b

-- so many calls in turn, each of which only reads or leaves the device as it is
abbrev pub ReadsInTurn : {S : Type 0} (m : Meaning S) → ℕ → S → S → Type 0
ReadsInTurn m = InTurn (ReadsOrLeaves m)

-- The store failed in the command at this place, from where the commands before it had left it, and was not called since.
pub record Failure {S : Type 0} (m : Meaning S) (z : Sizes) (read_only : Bool) (s : State) (commands : List Stamped) (answered : List Reply) (a b : S) : Type 0 where
  pub place : ℕ
  pub command : Stamped
  pub from : S
  pub at : slice_get commands place ≡ Some command
  pub within : place < length answered
  pub lasts : m.lasts a from
  pub fails : m.fails (after z read_only s commands (take place answered)).objects (step z read_only (after z read_only s commands (take place answered)) command).state.objects from b

-- From a state: the replies are right, a mount shows the tree after some of the commands, at least those that a sync covers,
-- the volume is stopped exactly where a reply is EIO, and then for a failure of the store, and else it represents the state
-- after the commands that were answered. Where the last of them was refused memory the device has power. The store was only read
-- where each of them only reports at its state; and it was only read, or its device left, of a read-only volume, and where each of
-- them only reports or makes no call. A read-only volume is stopped only where a read failed.
pub record Ran {S : Type 0} (m : Meaning S) (z : Sizes) (s : State) (commands : List Stamped) (answered : List Reply) (a b : Volume S) : Type 0 where
  pub holds : RunHolds z (is_read_only a) s commands answered
  pub power_losses : (tree : Objects) → m.shows (store_of a) tree → PowerLossLeaves (m.shows (store_of b)) tree z (is_read_only a) s commands answered
  pub stops : is_stopped b ≡ list_any is_stop answered
  pub failure : is_stopped b ≡ true → Failure m z (is_read_only a) s commands answered (store_of a) (store_of b)
  pub state : is_stopped b ≡ false → IsAt m z (after z (is_read_only a) s commands answered) b
  pub power : ends_refused answered ≡ true → m.has_power (store_of b) ≡ true
  pub reports : EachAnswered OnlyReports z (is_read_only a) s commands answered → m.reads (store_of a) (store_of b)
  pub only : (is_read_only a ≡ true) ⊎ EachAnswered WritesNothing z (is_read_only a) s commands answered → (n : ℕ) × ReadsInTurn m n (store_of a) (store_of b)
  pub unread : is_read_only a ≡ true → is_stopped b ≡ true → (x : S) × m.unread x (store_of b)

-- So many of the commands are answered, behind the old replies, and after EIO each by EIO: the volume is stopped afterwards
-- exactly where it was before or a reply is EIO. On a stopped volume all are EIO, and it stays as it was. Commands that make no
-- call leave the device as it is, whatever the state. Where no reply is EIO the device has power if it had it before.
pub record Runs {S : Type 0} (m : Meaning S) (commands : List Stamped) (n : ℕ) (before now : List Reply) (a b : Volume S) : Type 0 where
  pub answered : List Reply
  pub count : length answered ≡ n
  pub behind : now ≡ before ++ answered
  pub stays : StaysStopped answered
  pub stops : is_stopped b ≡ (is_stopped a || list_any is_stop answered)
  pub stopped : is_stopped a ≡ true → AllStopped answered × (b ≡ a)
  pub leaves : All (λ (stamped : Stamped). makes_no_call stamped.command ≡ true) (take n commands) → InTurn m.leaves n (store_of a) (store_of b)
  pub power : list_any is_stop answered ≡ false → m.has_power (store_of a) ≡ true → m.has_power (store_of b) ≡ true
  pub ran : is_stopped a ≡ false → OfVolume m a (λ z s. Ran m z s commands answered a b)

-- this holds of the number of commands that were done, which are the first ones, and all of them if the call ends well
abbrev pub OfFirst : {E : Type 0} → List Stamped → Result (Unit {0}) E → (ℕ → Type 0) → Type 0
OfFirst commands result A = (n : ℕ) × (n ≤ length commands) × OnOk result (n ≡ length commands) × A n
