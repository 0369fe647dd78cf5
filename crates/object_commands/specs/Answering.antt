-- What a volume over a store answers commands from.
use Rattle.std.specs.Prelude.{◌≡◌, Bool, false}
use Rattle.object_commands.specs.Endings.{IsAt}
use Rattle.object_commands.specs.Volumes.{is_read_only, is_stopped}
use Rattle.object_commands.specs.declared.volume.Volume.{Volume}
use Rattle.object_store.specs.Stores.{Meaning}
use Rattle.posix_profile.specs.State.{State}
use Rattle.volume_terms.specs.Sizes.{Sizes}

-- it goes on, and represents this state
abbrev pub ShowsState : {S : Type 0} → Meaning S → Volume S → Sizes → Bool → State → Type 0
ShowsState m v z read_only s = (is_stopped v ≡ false) × (is_read_only v ≡ read_only) × IsAt m z s v
