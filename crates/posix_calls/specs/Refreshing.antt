-- The refresh of a block of a volume.
-- From: this project.
use Rattle.std.specs.Prelude.{◌≡◌, ◌⊎◌, ℕ, true, false, Result, Ok, Err}
use Rattle.object_store.specs.Reported.{table_sizes}
use Rattle.paged_objects.specs.Ending.{HasEndedAt}
use Rattle.paged_objects.specs.Representing.{Shown}
use Rattle.pages.specs.Refreshing.{CostsAMove, LeavesBlock}
use Rattle.pages.specs.State.{PagesState, KeepsPower}
use Rattle.pages.specs.Stores.{GoesOn}
use Rattle.posix_calls.specs.PageVolumes.{pages_of, table_of, is_read_only, is_stopped, IsVolumeOf}
use Rattle.posix_calls.specs.declared.page_volume.PageVolume.{PageVolume}
use Rattle.posix_profile.specs.State.{Objects, State}
use Rattle.posix_profile.specs.declared.reply.Errno.{Errno}
use Rattle.posix_profile.specs.declared.reply.Errno.TheVariants as errors
use Rattle.volume_terms.specs.Sizes.{Sizes}

-- no committed page lies where it lay in the block
abbrev pub LeavesBlockOf : ℕ → PagesState → PagesState → Type 0
LeavesBlockOf block old new = LeavesBlock block old.device.flash new.device.flash old.committed

-- A volume that is stopped returns EIO, and a read-only one EROFS, and both stay as they are. Another one returns Ok or EIO, and is stopped by
-- EIO alone. Of a volume that represented a state: after Ok it represents it still, and no committed page lies where it lay in the block; EIO has
-- its cause; and a mount shows the tree that it did, whatever is returned. It costs a move.
pub record IsRefreshed {P : Type 0} (state : P → PagesState) (block : ℕ) (old : PageVolume P) (result : Result (Unit {0}) Errno) (new : PageVolume P) : Type 0 where
  pub goes_on : GoesOn (state (pages_of old)) (state (pages_of new))
  pub read_only : is_read_only new ≡ is_read_only old
  pub sizes : table_sizes (table_of new) ≡ table_sizes (table_of old)
  pub costs : CostsAMove (state (pages_of old)) (state (pages_of new))
  pub stopped : is_stopped old ≡ true → (result ≡ Err errors.EIO) × (new ≡ old)
  pub refused : is_stopped old ≡ false → is_read_only old ≡ true → (result ≡ Err errors.EROFS) × (new ≡ old)
  pub stops : is_stopped old ≡ false → is_read_only old ≡ false → ((result ≡ Ok tt) × (is_stopped new ≡ false)) ⊎ ((result ≡ Err errors.EIO) × (is_stopped new ≡ true))
  pub power : result ≡ Ok tt → KeepsPower (state (pages_of old)) (state (pages_of new))
  pub represents : result ≡ Ok tt → (z : Sizes) (s : State) → IsVolumeOf state z s old → IsVolumeOf state z s new
  pub leaves : result ≡ Ok tt → (z : Sizes) (s : State) → IsVolumeOf state z s old → LeavesBlockOf block (state (pages_of old)) (state (pages_of new))
  pub tree : (z : Sizes) (s : State) → IsVolumeOf state z s old → (tree : Objects) → Shown z (state (pages_of old)) tree → Shown z (state (pages_of new)) tree
  pub cause : is_stopped old ≡ false → (z : Sizes) (s : State) → IsVolumeOf state z s old → result ≡ Err errors.EIO → HasEndedAt (state (pages_of new))
