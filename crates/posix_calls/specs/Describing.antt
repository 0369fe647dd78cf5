-- What a volume reports of a descriptor.
use Rattle.std.specs.Prelude.{◌≡◌, ℕ, true, false, Result, Err}
use Rattle.object_commands.specs.Describing.{Describes}
use Rattle.posix_calls.specs.PageVolumes.{is_stopped, IsVolumeOf}
use Rattle.posix_calls.specs.declared.page_volume.PageVolume.{PageVolume}
use Rattle.pages.specs.State.{PagesState}
use Rattle.posix_profile.specs.State.{State}
use Rattle.posix_profile.specs.declared.reply.Errno.{Errno}
use Rattle.posix_profile.specs.declared.reply.Errno.TheVariants as errors
use Rattle.posix_profile.specs.declared.reply.Info.{Info}
use Rattle.volume_terms.specs.Sizes.{Sizes}

-- A volume that is stopped reports EIO; another one what Stat reports of the descriptor's object in the state that it represents.
pub record IsDescribed {P : Type 0} (state : P → PagesState) (v : PageVolume P) (fd : ℕ) (reported : Result Info Errno) : Type 0 where
  pub stopped : is_stopped v ≡ true → reported ≡ Err errors.EIO
  pub describes : is_stopped v ≡ false → (z : Sizes) (s : State) → IsVolumeOf state z s v → Describes s fd reported
