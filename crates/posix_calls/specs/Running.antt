-- What a run of commands over pages answers and leaves.
use Rattle.std.specs.Prelude.{◌≡◌, ◌⊎◌, ◌||◌, ◌++◌, ℕ, true, false, List, length, take, All}
use Rattle.std.specs.List.{list_any}
use Rattle.volume_terms.specs.Sizes.{Sizes}
use Rattle.posix_profile.specs.Losses.{PowerLossLeaves}
use Rattle.nand_model.specs.Changes.{OnlyReads}
use Rattle.posix_profile.specs.Runs.{is_stop, after, AllStopped, RunHolds}
use Rattle.posix_profile.specs.State.{Objects, State}
use Rattle.posix_profile.specs.declared.command.Stamped.{Stamped}
use Rattle.posix_profile.specs.declared.reply.Reply.{Reply}
use Rattle.command_plans.specs.Classes.{makes_no_call}
use Rattle.object_commands.specs.Running.{StaysStopped, ends_refused, OnlyReports, WritesNothing, EachAnswered}
use Rattle.pages.specs.State.{PagesState}
use Rattle.pages.specs.Stores.{HasFailed}
use Rattle.paged_objects.specs.Ending.{StaysAs, HasEnded}
use Rattle.paged_objects.specs.Representing.{Shown}
use Rattle.posix_calls.specs.PageVolumes.{pages_of, is_read_only, is_stopped, IsVolumeOf}
use Rattle.posix_calls.specs.declared.page_volume.PageVolume.{PageVolume}

-- From a state: the replies are right, a mount shows the tree after some of the commands, at least those that a sync covers,
-- and the volume is stopped for its reason, which is no want of blocks or numbers where it is read-only, or it represents the
-- state after the commands that were answered. Where the last of them was refused memory the device has power. Where each of them only reports at its state the pages are as they were. The
-- device is only read of a read-only volume, and where each of them only reports or makes no call.
pub record RanPages {P : Type 0} (state : P → PagesState) (z : Sizes) (s : State) (commands : List Stamped) (answered : List Reply) (a b : PageVolume P) : Type 0 where
  pub holds : RunHolds z (is_read_only a) s commands answered
  pub power_losses : (tree : Objects) → Shown z (state (pages_of a)) tree → PowerLossLeaves (Shown z (state (pages_of b))) tree z (is_read_only a) s commands answered
  pub cause : is_stopped b ≡ true → HasEnded (state (pages_of a)) (state (pages_of b))
  pub only_failed : is_read_only a ≡ true → is_stopped b ≡ true → HasFailed (state (pages_of b)).device
  pub state_is : is_stopped b ≡ false → IsVolumeOf state z (after z (is_read_only a) s commands answered) b
  pub power : ends_refused answered ≡ true → (state (pages_of b)).device.gone ≡ false
  pub reports : EachAnswered OnlyReports z (is_read_only a) s commands answered → StaysAs (state (pages_of a)) (state (pages_of b))
  pub only_reads : (is_read_only a ≡ true) ⊎ EachAnswered WritesNothing z (is_read_only a) s commands answered → OnlyReads (state (pages_of a)).device (state (pages_of b)).device

-- So many of the commands are answered, behind the old replies, and after EIO each by EIO: the volume is stopped afterwards
-- exactly where it was before or a reply is EIO. On a stopped volume all are EIO, and it stays as it was. Commands that make no
-- call leave the device as it is, whatever the state, and where no reply is EIO the power did not go.
pub record RunsPages {P : Type 0} (state : P → PagesState) (commands : List Stamped) (n : ℕ) (before now : List Reply) (a b : PageVolume P) : Type 0 where
  pub answered : List Reply
  pub count : length answered ≡ n
  pub behind : now ≡ before ++ answered
  pub stays : StaysStopped answered
  pub stops : is_stopped b ≡ (is_stopped a || list_any is_stop answered)
  pub stopped : is_stopped a ≡ true → AllStopped answered × (b ≡ a)
  pub leaves : All (λ (stamped : Stamped). makes_no_call stamped.command ≡ true) (take n commands) → (state (pages_of b)).device ≡ (state (pages_of a)).device
  pub power : list_any is_stop answered ≡ false → (state (pages_of a)).device.gone ≡ false → (state (pages_of b)).device.gone ≡ false
  pub ran : is_stopped a ≡ false → (z : Sizes) (s : State) → IsVolumeOf state z s a → RanPages state z s commands answered a b
