-- How a volume ends.
-- From: this project.
use Rattle.std.specs.Prelude.{◌≡◌, ◌⊎◌, ◌≤◌, ◌+◌, ℕ, Bool, true, false, Result, Ok, Err}
use Rattle.nand_model.specs.Calls.{Device}
use Rattle.nand_model.specs.Counts.{Costs}
use Rattle.object_store.specs.Stores.{settled}
use Rattle.page_store.specs.Sealing.{EndsOn, StaysRight, IsSealed, SealEnds}
use Rattle.posix_calls.specs.PageVolumes.{pages_of, is_read_only, is_stopped, IsVolumeOf}
use Rattle.posix_calls.specs.declared.page_volume.PageVolume.{PageVolume}
use Rattle.pages.specs.State.{PagesState}
use Rattle.pages.specs.Stores.{GoesOn, bad_on}
use Rattle.paged_objects.specs.Ending.{HasEnded}
use Rattle.paged_objects.specs.Representing.{Shown}
use Rattle.posix_profile.specs.State.{Objects, State}
use Rattle.posix_profile.specs.declared.reply.Errno.TheVariants as errors
use Rattle.posix_profile.specs.declared.reply.Reply.{Reply}
use Rattle.posix_profile.specs.declared.reply.Reply.TheVariants as replies
use Rattle.nand_model.specs.Trusting.{trusted_as}
use Rattle.volume_terms.specs.Sizes.{Sizes}
use Rattle.volume_terms.specs.declared.fault.StoreFault.{StoreFault}

-- the device of these pages is this one, trusted or not
abbrev pub LiesOn : PagesState → Device → Type 0
LiesOn pages device = (reported : Bool) × (pages.device ≡ trusted_as reported device)

-- The volume gives its device back. One that is stopped answers EIO, and leaves the device. One that is read-only leaves it too,
-- and answers Done where it is not stopped. Else the answer is Done, and a mount shows what names keep of the objects; or it is EIO
-- for its reason, and a mount shows that or the tree that it would have shown. After Done the device has not lost its power in it, and
-- has no more bad blocks than there are to spare. Checkpoints stay right, also where power is lost.
pub record IsUnmounted {P : Type 0} (state : P → PagesState) (v : PageVolume P) (device : Device) (reply : Reply) : Type 0 where
  pub pages : PagesState
  pub device_is : LiesOn pages device
  pub ends_on : EndsOn (state (pages_of v)) pages
  pub stopped : is_stopped v ≡ true → (reply ≡ replies.Error errors.EIO) × (pages ≡ state (pages_of v))
  pub read_only : is_read_only v ≡ true → pages ≡ state (pages_of v)
  pub replies_are : is_stopped v ≡ false → (reply ≡ replies.Done) ⊎ (reply ≡ replies.Error errors.EIO)
  pub read_only_done : is_stopped v ≡ false → is_read_only v ≡ true → reply ≡ replies.Done
  pub power : reply ≡ replies.Done → (state (pages_of v)).device.gone ≡ false → device.gone ≡ false
  pub within_limit : is_read_only v ≡ false → (z : Sizes) (s : State) → IsVolumeOf state z s v → reply ≡ replies.Done → bad_on device ≤ pages.spare
  pub done : is_stopped v ≡ false → (z : Sizes) (s : State) → IsVolumeOf state z s v → reply ≡ replies.Done → Shown z pages (settled s.objects)
  pub tree : is_stopped v ≡ false → (z : Sizes) (s : State) → IsVolumeOf state z s v → (tree : Objects) → Shown z (state (pages_of v)) tree
      → Shown z pages tree ⊎ Shown z pages (settled s.objects)
  pub cause : is_stopped v ≡ false → (z : Sizes) (s : State) → IsVolumeOf state z s v → reply ≡ replies.Error errors.EIO → HasEnded (state (pages_of v)) pages
  pub checked : is_stopped v ≡ false → (z : Sizes) (s : State) → IsVolumeOf state z s v → StaysRight (state (pages_of v)) pages

-- What a checkpoint of so many pages costs at most: the erase of a block, its pages, and for each failure an erase or a mark, and what failed.
abbrev pub CostsACheckpoint : (pages : ℕ) → Device → Device → Type 0
CostsACheckpoint pages old new = Costs (pages + 1) 2 0 old new

-- The pages were committed, and no checkpoint of them was due; or one is whole on the device now, or it had a failure. It cost the
-- erase of a block and as many pages as the checkpoint has at most, and for each failure an erase or a mark, and what failed.
pub record LeavesCheckpoint {P : Type 0} (state : P → PagesState) (due : P → Type 0) (length : P → ℕ) (v : PageVolume P) (device : Device) : Type 0 where
  pub committed_map : P
  pub goes_on : GoesOn (state (pages_of v)) (state committed_map)
  pub left : PagesState
  pub device_is : LiesOn left device
  pub ends : SealEnds (due committed_map) (state committed_map) left (Ok tt)
  pub costs : CostsACheckpoint (length committed_map) (state committed_map).device left.device

-- the reply to an unmount, by how the writing of its checkpoint ended
abbrev pub reply_of : Result (Unit {0}) StoreFault → Reply
reply_of (Ok done) = replies.Done
reply_of (Err fault) = replies.Error errors.EIO

-- What follows the last reply of pages that are given up: after Done their checkpoint is written where it is due, and else they are left.
abbrev pub EndsWith : (due : Type 0) → PagesState → Reply → Device → Reply → Type 0
EndsWith due pages reply device reported =
    ((reply ≡ replies.Done) × (sealed : Result (Unit {0}) StoreFault) × IsSealed due pages device sealed × (reported ≡ reply_of sealed))
    ⊎ ((reply ≡ replies.Done → ⊥) × (pages.device ≡ device) × (reported ≡ reply))
