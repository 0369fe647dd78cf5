-- What the maps that keep a copy share with the maps.
use Rattle.std.specs.Prelude.{Result, Ok, Err}
use Rattle.volume_terms.specs.Sizes.{Sizes}
use Rattle.posix_profile.specs.State.{Objects}
use Rattle.object_store.specs.Stores.{Has, Finds}
use Rattle.plain_volume.specs.PlainMeaning.{plain_meaning}
use Rattle.volume_terms.specs.declared.fault.StoreFault.{StoreFault}
use Rattle.volume_terms.specs.declared.fault.StoreFault.TheVariants as faults
use Rattle.plain_volume.specs.declared.objects.store.PlainObjects.{PlainObjects}
use Rattle.command_tests.specs.Committed.{committed_meaning}

-- the maps have what the store has
pub maps_have : {T : Type 0} (inner shown : T → PlainObjects) (z : Sizes) (objects : Objects) (a : T) → Has (committed_meaning inner shown) z objects a → Has plain_meaning z objects (inner a)
maps_have inner shown z objects a has = record { numbers = has.numbers; sizes = has.sizes; represents = has.represents; forest = has.forest; fit = has.fit }

-- what the maps find, the store finds
pub store_finds : {A T : Type 0} (inner shown : T → PlainObjects) (meant : A) (a b : T) (r : Result A StoreFault) → Finds plain_meaning meant (inner a) (inner b) r → Finds (committed_meaning inner shown) meant a b r
store_finds inner shown meant a b (Ok found) is = is
store_finds inner shown meant a b (Err faults.NoMemory) is = is
store_finds inner shown meant a b (Err faults.Device) is = is
store_finds inner shown meant a b (Err faults.Worn) is = is
