-- What a volume on a device answers commands from.
use Rattle.std.specs.Prelude.{◌≡◌, Bool, false}
use Rattle.posix_calls.specs.PageVolumes.{is_read_only, is_stopped, IsVolumeOf}
use Rattle.posix_calls.specs.declared.page_volume.PageVolume.{PageVolume}
use Rattle.pages.specs.State.{PagesState}
use Rattle.posix_profile.specs.State.{State}
use Rattle.volume_terms.specs.Sizes.{Sizes}

-- it goes on, and represents this state
abbrev pub ShowsState : {P : Type 0} → (P → PagesState) → PageVolume P → Sizes → Bool → State → Type 0
ShowsState state v z read_only s = (is_stopped v ≡ false) × (is_read_only v ≡ read_only) × IsVolumeOf state z s v
