-- What a store of objects represents, and what its calls leave.
use Rattle.std.specs.Prelude.{◌≡◌, ◌⊎◌, Bool, true, false, Result, Ok, Err, ℕ}
use Rattle.std.specs.FinMap as map
use Rattle.volume_terms.specs.Sizes.{Sizes, IsSizes}
use Rattle.posix_profile.specs.State.{Objects, IsDirectory, IsFile}
use Rattle.posix_profile.specs.Names.{settle}
use Rattle.posix_profile.specs.Charge.{fits}
use Rattle.posix_profile.specs.WellFormed.{IsForest}
use Rattle.posix_profile.specs.declared.reply.Errno.{Errno}
use Rattle.volume_terms.specs.declared.fault.StoreFault.{StoreFault}
use Rattle.volume_terms.specs.declared.fault.StoreFault.TheVariants as faults
use Rattle.object_store.specs.Changes.{made}
use Rattle.object_store.specs.declared.change.ObjectChange.{ObjectChange}
use Rattle.object_store.specs.declared.refusal.Refusal.{Refusal}
use Rattle.object_store.specs.declared.refusal.Refusal.TheVariants as refusals

-- the objects that names keep, which a mount shows
abbrev pub settled : Objects → Objects
settled objects = (settle (record { objects = objects; handles = map.empty })).objects

-- What a store represents: the numbers of its volume, its objects, the tree that a mount would show, and whether its device has
-- power. And what is left by every call, by a call that leaves the device as it is, by calls that only read, by calls that only read
-- and of which the last failed, by a done change from these objects to those, by a call that the device ended, which was to make
-- those of these, and by a done commit of these objects.
pub record Meaning (S : Type 0) : Type 1 where
  pub sizes : S → Sizes
  pub represents : S → Objects → Type 0
  pub shows : S → Objects → Type 0
  pub has_power : S → Bool
  pub lasts : S → S → Type 0
  pub leaves : S → S → Type 0
  pub reads : S → S → Type 0
  pub unread : S → S → Type 0
  pub changes : Objects → Objects → S → S → Type 0
  pub fails : Objects → Objects → S → S → Type 0
  pub commits : Objects → S → S → Type 0

-- A mount shows the tree that it did, or the settled objects.
abbrev pub KeepsOrSettles : {S : Type 0} (m : Meaning S) → Objects → S → S → Type 0
KeepsOrSettles m objects a b = (tree : Objects) → m.shows a tree → m.shows b tree ⊎ m.shows b (settled objects)

-- Without a call the device is left. Reads leave what was, and reads before a call do not matter. A change, and a call that
-- fails, leave the tree that a mount shows or settle the objects that were; a done commit settles them. Where a read failed the
-- call has, and where the power was lost in a read it failed.
pub record IsLawful {S : Type 0} (m : Meaning S) : Type 0 where
  pub leaves_nothing : (a : S) → m.leaves a a
  pub reads_nothing : (a : S) → m.reads a a
  pub reads_on : (a b c : S) → m.reads a b → m.reads b c → m.reads a c
  pub reads_lasts : (a b : S) → m.reads a b → m.lasts a b
  pub lasts_on : (a b c : S) → m.lasts a b → m.lasts b c → m.lasts a c
  pub lasts_sizes : (a b : S) → m.lasts a b → m.sizes b ≡ m.sizes a
  pub reads_represent : (a b : S) (objects : Objects) → m.reads a b → m.represents a objects → m.represents b objects
  pub reads_shows : (a b : S) (tree : Objects) → m.reads a b → m.shows a tree → m.shows b tree
  pub changes_on : (a b c : S) (old new : Objects) → m.reads a b → m.changes old new b c → m.changes old new a c
  pub changes_shows : (a b : S) (old new : Objects) → m.changes old new a b → KeepsOrSettles m old a b
  pub fails_on : (a b c : S) (old new : Objects) → m.reads a b → m.fails old new b c → m.fails old new a c
  pub unread_on : (a b c : S) → m.reads a b → m.unread b c → m.unread a c
  pub unread_reads : (a b : S) → m.unread a b → m.reads a b
  pub unread_fails : (a b : S) (old new : Objects) → m.unread a b → m.fails old new a b
  pub powerless_unread : (a b : S) → m.reads a b → m.has_power b ≡ false → m.unread a b
  pub fails_shows : (a b : S) (old new : Objects) → m.fails old new a b → KeepsOrSettles m old a b
  pub commits_on : (a b c : S) (objects : Objects) → m.reads a b → m.commits objects b c → m.commits objects a c
  pub commits_shows : (a b : S) (objects : Objects) → m.commits objects a b → m.shows b (settled objects)

-- objects that a volume of these sizes can have: they hang together, and fit
pub record CanHave (z : Sizes) (objects : Objects) : Type 0 where
  pub numbers : IsSizes z
  pub forest : IsForest z objects
  pub fit : fits z objects ≡ true

-- The store represents objects that its volume can have.
pub record Has {S : Type 0} (m : Meaning S) (z : Sizes) (objects : Objects) (a : S) : Type 0 where
  pub numbers : IsSizes z
  pub sizes : m.sizes a ≡ z
  pub represents : m.represents a objects
  pub forest : IsForest z objects
  pub fit : fits z objects ≡ true

-- What a fault leaves: reads alone where memory was refused, else what the device left.
abbrev pub Faults : {S : Type 0} (m : Meaning S) → Objects → Objects → S → S → StoreFault → Type 0
Faults m old new a b faults.NoMemory = m.reads a b
Faults m old new a b faults.Device = m.fails old new a b
Faults m old new a b faults.Worn = m.fails old new a b

-- What a fault of a call that reads leaves: reads alone where memory was refused, else what a read left that failed. Nothing is
-- worn by it.
abbrev pub ReadFaults : {S : Type 0} (m : Meaning S) → S → S → StoreFault → Type 0
ReadFaults m a b faults.NoMemory = m.reads a b
ReadFaults m a b faults.Device = m.unread a b
ReadFaults m a b faults.Worn = ⊥

-- the answer of a call that reads
abbrev pub Finds : {S A : Type 0} (m : Meaning S) → A → S → S → Result A StoreFault → Type 0
Finds m meant a b (Ok found) = found ≡ meant
Finds m meant a b (Err fault) = ReadFaults m a b fault

-- the end of a change
abbrev pub Applies : {S : Type 0} (m : Meaning S) → Objects → Objects → S → S → Result (Unit {0}) StoreFault → Type 0
Applies m old new a b (Ok done) = m.represents b new × m.changes old new a b
Applies m old new a b (Err fault) = Faults m old new a b fault

-- the end of this change
abbrev pub Makes : {S : Type 0} (m : Meaning S) → Objects → ObjectChange → S → S → Result (Unit {0}) StoreFault → Type 0
Makes m objects change a b result = Applies m objects (made objects change) a b result

-- the end of a commit
abbrev pub Commits : {S : Type 0} (m : Meaning S) → Objects → S → S → Result (Unit {0}) StoreFault → Type 0
Commits m objects a b (Ok done) = m.represents b objects × m.commits objects a b
Commits m objects a b (Err fault) = Faults m objects objects a b fault

-- what is reported of a value, or of an error, unless a read failed or was refused memory
abbrev pub Reports : {S A : Type 0} (m : Meaning S) → S → S → (A → Type 0) → (Errno → Type 0) → Result A Refusal → Type 0
Reports m a b P Q (Ok x) = P x
Reports m a b P Q (Err (refusals.Fault fault)) = ReadFaults m a b fault
Reports m a b P Q (Err (refusals.Error error)) = Q error

-- the device has power where it had it, unless the store has a fault
abbrev pub KeepsPower : {S A : Type 0} (m : Meaning S) → S → S → Result A Refusal → Type 0
KeepsPower m a b (Ok x) = m.has_power b ≡ m.has_power a
KeepsPower m a b (Err (refusals.Fault fault)) = Unit {0}
KeepsPower m a b (Err (refusals.Error error)) = m.has_power b ≡ m.has_power a

-- what is true of the tree that a store has, whichever that is
abbrev pub OfTree : {S : Type 0} → Meaning S → S → (Sizes → Objects → Type 0) → Type 0
OfTree m a A = (z : Sizes) (objects : Objects) → Has m z objects a → A z objects

-- and of a directory in it
abbrev pub OfDirectory : {S : Type 0} → Meaning S → S → ℕ → (Sizes → Objects → Type 0) → Type 0
OfDirectory m a d A = (z : Sizes) (objects : Objects) → Has m z objects a → IsDirectory objects d → A z objects

-- and of a file in it
abbrev pub OfFile : {S : Type 0} → Meaning S → S → ℕ → (Sizes → Objects → Type 0) → Type 0
OfFile m a file A = (z : Sizes) (objects : Objects) → Has m z objects a → IsFile objects file → A z objects

-- and of whichever file in it
abbrev pub OfAnyFile : {S : Type 0} → Meaning S → S → (Sizes → Objects → ℕ → Type 0) → Type 0
OfAnyFile m a A = (z : Sizes) (objects : Objects) (file : ℕ) → Has m z objects a → IsFile objects file → A z objects file
