-- What maps represent.
use Rattle.std.specs.Prelude.{◌≡◌, true}
use Rattle.volume_terms.specs.Sizes.{Sizes}
use Rattle.volume_terms.specs.VolumeSizes.{sizes_of}
use Rattle.posix_profile.specs.State.{Objects}
use Rattle.object_store.specs.Stores.{Meaning}
use Rattle.plain_volume.specs.PlainState.{objects_in}
use Rattle.plain_volume.specs.declared.objects.store.PlainObjects.{PlainObjects}

-- the objects of the maps
abbrev pub objects_of : PlainObjects → Objects
objects_of a = objects_in a.objects

-- the numbers of their volume
abbrev pub numbers_of : PlainObjects → Sizes
numbers_of a = sizes_of a.sizes

-- The objects of the map. Reads leave it, and a change leaves the new objects. There is no device: none is called, and none
-- fails or loses its power. Maps are not mounted, so nothing is said of what a mount would show.
abbrev pub plain_meaning : Meaning PlainObjects
plain_meaning = record {
  sizes = numbers_of;
  represents = λ a objects. objects_of a ≡ objects;
  shows = λ a tree. Unit {0};
  has_power = λ a. true;
  lasts = λ a b. numbers_of b ≡ numbers_of a;
  leaves = λ a b. Unit {0};
  reads = λ a b. (objects_of b ≡ objects_of a) × (numbers_of b ≡ numbers_of a);
  unread = λ a b. ⊥;
  changes = λ old new a b. Unit {0};
  fails = λ old new a b. ⊥;
  commits = λ objects a b. Unit {0};
}
