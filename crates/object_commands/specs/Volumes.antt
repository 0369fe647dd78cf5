-- What a volume is.
use Rattle.std.specs.Prelude.{◌≡◌, Bool, true}
use Rattle.posix_profile.specs.Runs.{is_stop}
use Rattle.posix_profile.specs.State.{Handles}
use Rattle.posix_profile.specs.declared.reply.Reply.{Reply}
use Rattle.command_plans.specs.Tables.{handles_in}
use Rattle.object_commands.specs.declared.volume.Volume.{Volume}

-- the store that it is over
abbrev pub store_of : {S : Type 0} → Volume S → S
store_of v = v.store

-- what its descriptors refer to
abbrev pub handles_of : {S : Type 0} → Volume S → Handles
handles_of v = handles_in v.table

-- commands that would change it are refused
abbrev pub is_read_only : {S : Type 0} → Volume S → Bool
is_read_only v = v.read_only

-- the volume over this store
abbrev pub with_store : {S : Type 0} → Volume S → S → Volume S
with_store v store = record v { store = store }

-- it answers EIO to each command
abbrev pub is_stopped : {S : Type 0} → Volume S → Bool
is_stopped v = v.stopped

-- the same volume, which answers EIO to each command
abbrev pub with_stop : {S : Type 0} → Volume S → Volume S
with_stop v = record v { stopped = true }

-- the volume once it has given this reply: stopped exactly if that is EIO
abbrev pub ended : {S : Type 0} → Volume S → Reply → Volume S
ended v reply = record v { stopped = is_stop reply }

-- the volume is over this store, its descriptors refer to this, and it is read-only, and stopped, or not
abbrev pub HasParts : {S : Type 0} → S → Handles → Bool → Bool → Volume S → Type 0
HasParts store handles read_only stopped v = (store_of v ≡ store) × (handles_of v ≡ handles) × (is_read_only v ≡ read_only) × (is_stopped v ≡ stopped)
