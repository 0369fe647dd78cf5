-- Maps that keep a copy of what was committed.
use Rattle.std.specs.Prelude.{◌≡◌, true}
use Rattle.object_store.specs.Stores.{Meaning}
use Rattle.plain_volume.specs.PlainMeaning.{objects_of, numbers_of}
use Rattle.plain_volume.specs.declared.objects.store.PlainObjects.{PlainObjects}

-- The objects of the maps. A commit may fail. Nothing is said of what a mount would show: the tests look at it.
abbrev pub committed_meaning : {T : Type 0} (inner shown : T → PlainObjects) → Meaning T
committed_meaning inner shown = record {
  sizes = λ a. numbers_of (inner a);
  represents = λ a objects. objects_of (inner a) ≡ objects;
  shows = λ a tree. Unit {0};
  has_power = λ a. true;
  lasts = λ a b. numbers_of (inner b) ≡ numbers_of (inner a);
  leaves = λ a b. shown b ≡ shown a;
  reads = λ a b. (objects_of (inner b) ≡ objects_of (inner a)) × (numbers_of (inner b) ≡ numbers_of (inner a));
  unread = λ a b. ⊥;
  changes = λ old new a b. Unit {0};
  fails = λ old new a b. Unit {0};
  commits = λ objects a b. Unit {0};
}
