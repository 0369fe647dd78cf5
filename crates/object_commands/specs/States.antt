-- What is said at the states for which a store, and a table of descriptors, stand.
use Rattle.std.specs.Prelude.{◌≡◌, ℕ, Some}
use Rattle.std.specs.FinMap as map
use Rattle.volume_terms.specs.Sizes.{Sizes}
use Rattle.posix_profile.specs.State.{Object, Objects, State, IsFile}
use Rattle.object_store.specs.Stores.{Meaning, Has}
use Rattle.command_plans.specs.Plans.{Holds}
use Rattle.command_plans.specs.Tables.{handles_in}
use Rattle.command_plans.specs.declared.table.DescriptorTable.{DescriptorTable}

-- this holds, by the sizes of the volume, of the objects that the store represents
abbrev pub OfObjects : {S : Type 0} (m : Meaning S) → S → (Sizes → Objects → Type 0) → Type 0
OfObjects m a A = (z : Sizes) (objects : Objects) → Has m z objects a → A z objects

-- this holds, by the sizes of the volume, at each state whose objects the store represents
abbrev pub OfStore : {S : Type 0} (m : Meaning S) → S → (Sizes → State → Type 0) → Type 0
OfStore m a A = (z : Sizes) (s : State) → Holds m z s a → A z s

-- this holds at each such state whose descriptors are those of the table
abbrev pub OfState : {S : Type 0} (m : Meaning S) → S → DescriptorTable → (Sizes → State → Type 0) → Type 0
OfState m a table A = (z : Sizes) (s : State) → Holds m z s a → handles_in table ≡ s.handles → A z s

-- this holds if there is an object of this number
abbrev pub IfThere : State → ℕ → Type 0 → Type 0
IfThere s o A = (x : Object) → map.get s.objects o ≡ Some x → A

-- this holds if there is a file of this number
abbrev pub IfFile : State → ℕ → Type 0 → Type 0
IfFile s o A = IsFile s.objects o → A
