-- What objects over pages represent.
use Rattle.std.specs.Prelude.{◌≡◌, not}
use Rattle.object_store.specs.Stores.{Meaning}
use Rattle.pages.specs.Stores.{GoesOn, HasFailed}
use Rattle.paged_objects.specs.Representing.{Shown}
use Rattle.paged_objects.specs.Ending.{Changes, Fails, Commits}
use Rattle.paged_objects.specs.Known.{ObjectsState, sizes_in, Represents, StaysIn}

-- The objects that the pages hold, the table reports and the index names. A mount shows those that names keep of what the device committed
-- last. Each call goes on with the same volume; one that only reads leaves pages and table as they were, and a read fails where the
-- device is gone or not honest. The device is left where it is not called.
abbrev pub paged_meaning : {S : Type 0} (state : S → ObjectsState) → Meaning S
paged_meaning state = record {
  sizes = λ s. sizes_in (state s);
  represents = λ s objects. Represents (state s) objects;
  shows = λ s tree. Shown (sizes_in (state s)) (state s).pages tree;
  has_power = λ s. not (state s).pages.device.gone;
  lasts = λ a b. GoesOn (state a).pages (state b).pages × (sizes_in (state b) ≡ sizes_in (state a));
  leaves = λ a b. (state b).pages.device ≡ (state a).pages.device;
  reads = λ a b. StaysIn (state a) (state b);
  unread = λ a b. StaysIn (state a) (state b) × HasFailed (state b).pages.device;
  changes = λ old new a b. Changes (sizes_in (state a)) old (state a).pages (state b).pages × (sizes_in (state b) ≡ sizes_in (state a));
  fails = λ old new a b. Fails (sizes_in (state a)) old (state a).pages (state b).pages × (sizes_in (state b) ≡ sizes_in (state a));
  commits = λ objects a b. Commits (sizes_in (state a)) objects (state a).pages (state b).pages × (sizes_in (state b) ≡ sizes_in (state a));
}
