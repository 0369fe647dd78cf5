-- What the descriptors of a table represent.
use Rattle.std.specs.Prelude.{◌≡◌, ◌≢◌, ℕ, ◌+◌, List, [], ◌∷◌, Option, Some, None}
use Rattle.std.specs.FinMap as map
use Rattle.posix_profile.specs.State.{Handle, Handles}
use Rattle.command_plans.specs.declared.table.OpenDescription.{OpenDescription}
use Rattle.command_plans.specs.declared.table.DescriptorTable.{DescriptorTable}

-- what a descriptor refers to
abbrev pub handle_of : OpenDescription → Handle
handle_of d = record { object = d.object; flags = d.flags; offset = d.offset }

-- what the slots have, as descriptors from this one up
abbrev pub handles_from : ℕ → List (Option OpenDescription) → Handles
handles_from fd [] = map.empty
handles_from fd (None ∷ slots) = handles_from (fd + 1) slots
handles_from fd (Some description ∷ slots) = map.insert (handles_from (fd + 1) slots) fd (handle_of description)

-- what the descriptors of a table represent
unfoldable pub handles_in : DescriptorTable → Handles
handles_in table = handles_from 0 table.slots.items

-- the descriptor is open on the object
abbrev pub RefersTo : Handles → ℕ → ℕ → Type 0
RefersTo handles fd o = (handle : Handle) × (map.get handles fd ≡ Some handle) × (handle.object ≡ o)

-- the descriptor is open on another object, if it is open
abbrev pub RefersToOther : Handles → ℕ → ℕ → Type 0
RefersToOther handles fd o = (handle : Handle) → map.get handles fd ≡ Some handle → handle.object ≢ o
