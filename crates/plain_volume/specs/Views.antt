-- What a plain volume is seen as.
use Rattle.std.specs.Prelude.{Bool}
use Rattle.volume_terms.specs.Sizes.{Sizes}
use Rattle.posix_profile.specs.State.{State}

-- the numbers of a volume, whether it may only be read, and its state
pub record PlainView : Type 0 where
  pub sizes : Sizes
  pub read_only : Bool
  pub state : State
