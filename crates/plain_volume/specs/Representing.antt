-- What a volume over maps represents.
use Rattle.std.specs.Prelude.{◌≡◌, true, false}
use Rattle.volume_terms.specs.Sizes.{IsSizes}
use Rattle.posix_profile.specs.State.{State}
use Rattle.posix_profile.specs.laws.Sound.{IsSound}
use Rattle.object_commands.specs.Endings.{AreReading}
use Rattle.object_commands.specs.Volumes.{store_of, handles_of, is_read_only, is_stopped}
use Rattle.object_commands.specs.declared.volume.Volume.{Volume}
use Rattle.object_store.specs.Stores.{settled}
use Rattle.plain_volume.specs.PlainMeaning.{objects_of, numbers_of}
use Rattle.plain_volume.specs.declared.objects.store.PlainObjects.{PlainObjects}
use Rattle.plain_volume.specs.Views.{PlainView}

-- the objects of the maps, and what the descriptors refer to
abbrev pub state_of : Volume PlainObjects → State
state_of v = record { objects = objects_of (store_of v); handles = handles_of v }

-- the numbers of the maps, whether the volume may only be read, and the state
abbrev pub view_of : Volume PlainObjects → PlainView
view_of v = record { sizes = numbers_of (store_of v); read_only = is_read_only v; state = state_of v }

-- The volume goes on, and its state is one that a volume of its numbers can have. Of a read-only one no descriptor may write, and
-- each object has a name.
pub record IsPlain (v : Volume PlainObjects) : Type 0 where
  pub numbers : IsSizes (numbers_of (store_of v))
  pub sound : IsSound (numbers_of (store_of v)) (state_of v)
  pub goes_on : is_stopped v ≡ false
  pub reading : is_read_only v ≡ true → AreReading (handles_of v)
  pub named : is_read_only v ≡ true → settled (objects_of (store_of v)) ≡ objects_of (store_of v)
