-- What one call of a volume does.
use Rattle.std.specs.Prelude.{◌≡◌, ◌⊎◌, true, false}
use Rattle.command_plans.specs.Classes.{makes_no_call}
use Rattle.nand_model.specs.Changes.{OnlyReads}
use Rattle.object_commands.specs.Running.{OnlyReports}
use Rattle.object_commands.specs.Serving.{is_refusal}
use Rattle.object_store.specs.Stores.{settled}
use Rattle.object_store.specs.Reported.{table_sizes, ReportsTheSame}
use Rattle.posix_calls.specs.PageVolumes.{pages_of, table_of, handles_of, is_read_only, is_stopped, IsVolumeOf}
use Rattle.posix_calls.specs.declared.page_volume.PageVolume.{PageVolume}
use Rattle.paged_objects.specs.Ending.{HasEnded, StaysAs}
use Rattle.paged_objects.specs.Representing.{Shown}
use Rattle.pages.specs.State.{PagesState}
use Rattle.pages.specs.Stores.{GoesOn, HasFailed}
use Rattle.posix_profile.specs.Losses.{is_synced}
use Rattle.posix_profile.specs.Runs.{Replies, after_one, is_stop}
use Rattle.posix_profile.specs.State.{Objects, State}
use Rattle.posix_profile.specs.declared.command.Stamped.{Stamped}
use Rattle.posix_profile.specs.declared.reply.Errno.TheVariants as errors
use Rattle.posix_profile.specs.declared.reply.Reply.{Reply}
use Rattle.posix_profile.specs.declared.reply.Reply.TheVariants as replies
use Rattle.volume_terms.specs.Sizes.{Sizes}

-- From a state: the reply is the profile's and the volume represents the state after the command, unless it is stopped, and
-- then for its reason; a mount shows the tree that it did, or what names keep of the objects before the command, and after
-- a sync that. Where memory was refused the device has power. What only reports reads alone; so does every call of a read-only volume, which
-- nothing stops but a device that is gone or not honest.
pub record IsReplied {P : Type 0} (state : P → PagesState) (z : Sizes) (s : State) (old : PageVolume P) (command : Stamped) (reply : Reply) (new : PageVolume P) : Type 0 where
  pub reply_is : Replies z (is_read_only old) s command reply
  pub state_is : is_stop reply ≡ false → IsVolumeOf state z (after_one z (is_read_only old) s command reply) new
  pub tree : (tree : Objects) → Shown z (state (pages_of old)) tree → Shown z (state (pages_of new)) tree ⊎ Shown z (state (pages_of new)) (settled s.objects)
  pub synced : is_synced command.command reply ≡ true → Shown z (state (pages_of new)) (settled s.objects)
  pub cause : is_stop reply ≡ true → HasEnded (state (pages_of old)) (state (pages_of new))
  pub power : reply ≡ replies.Error errors.ENOMEM → (state (pages_of new)).device.gone ≡ false
  pub reads : OnlyReports z (is_read_only old) s command reply → StaysAs (state (pages_of old)) (state (pages_of new))
  pub only_reads : is_read_only old ≡ true → OnlyReads (state (pages_of old)).device (state (pages_of new)).device
  pub only_failed : is_read_only old ≡ true → is_stop reply ≡ true → HasFailed (state (pages_of new)).device

-- a volume goes on: its pages do, and it is read-only if it was
pub record VolumeGoesOn {P : Type 0} (state : P → PagesState) (old new : PageVolume P) : Type 0 where
  pub pages : GoesOn (state (pages_of old)) (state (pages_of new))
  pub read_only : is_read_only new ≡ is_read_only old

-- Nothing is changed: the pages are the same and the device was only read, the table has the same objects, and the descriptors refer to
-- what they did.
pub record VolumeStays {P : Type 0} (state : P → PagesState) (old new : PageVolume P) : Type 0 where
  pub pages : StaysAs (state (pages_of old)) (state (pages_of new))
  pub table : ReportsTheSame (table_of old) (table_of new)
  pub handles : handles_of new ≡ handles_of old

-- What makes no call of the device leaves it, an error other than EIO changes nothing, of any device, and a reply other than EIO leaves its
-- power. A volume that is stopped answers EIO and stays
-- as it is; another one is stopped by EIO alone, and replies from the state that it represents.
pub record IsCalled {P : Type 0} (state : P → PagesState) (old : PageVolume P) (command : Stamped) (reply : Reply) (new : PageVolume P) : Type 0 where
  pub goes_on : GoesOn (state (pages_of old)) (state (pages_of new))
  pub read_only : is_read_only new ≡ is_read_only old
  pub sizes : table_sizes (table_of new) ≡ table_sizes (table_of old)
  pub leaves : makes_no_call command.command ≡ true → (state (pages_of new)).device ≡ (state (pages_of old)).device
  pub keeps_power : is_stop reply ≡ false → (state (pages_of old)).device.gone ≡ false → (state (pages_of new)).device.gone ≡ false
  pub stopped : is_stopped old ≡ true → (reply ≡ replies.Error errors.EIO) × (new ≡ old)
  pub stops : is_stopped old ≡ false → is_stopped new ≡ is_stop reply
  pub refuses : is_refusal reply ≡ true → VolumeStays state old new
  pub replied : is_stopped old ≡ false → (z : Sizes) (s : State) → IsVolumeOf state z s old → IsReplied state z s old command reply new
