-- What a volume over maps answers commands from.
use Rattle.std.specs.Prelude.{◌≡◌, Bool}
use Rattle.plain_volume.specs.Views.{PlainView}
use Rattle.posix_profile.specs.State.{State}
use Rattle.posix_profile.specs.laws.Sound.{IsSound}
use Rattle.volume_terms.specs.Sizes.{Sizes}

-- this is its state, which is one that a volume can have
abbrev pub ShowsPlain : PlainView → Sizes → Bool → State → Type 0
ShowsPlain v z read_only s = (v ≡ record { sizes = z; read_only = read_only; state = s }) × IsSound z s
