-- What a loss of power leaves of a run.
-- From: this project; `fsync()` and `sync()` of POSIX.
use Rattle.std.specs.Prelude.{◌≡◌, ◌⊎◌, ◌<◌, ◌≤◌, ℕ, Bool, true, false, List, length, take, Some, slice_get}
use Rattle.volume_terms.specs.Sizes.{Sizes}
use Rattle.posix_profile.specs.State.{Objects, State}
use Rattle.posix_profile.specs.Names.{settle}
use Rattle.posix_profile.specs.Runs.{after}
use Rattle.posix_profile.specs.declared.command.Command.{Command}
use Rattle.posix_profile.specs.declared.command.Command.TheVariants as commands
use Rattle.posix_profile.specs.declared.command.Stamped.{Stamped}
use Rattle.posix_profile.specs.declared.reply.Reply.{Reply}
use Rattle.posix_profile.specs.declared.reply.Reply.TheVariants as replies

-- whether it is a sync that is done
abbrev pub is_synced : Command → Reply → Bool
is_synced (commands.Fsync fd) replies.Done = true
is_synced commands.Sync replies.Done = true
is_synced command reply = false

-- the i-th command is a sync, and it is done
abbrev pub IsSyncDone : List Stamped → List Reply → ℕ → Type 0
IsSyncDone commands replies i =
    (command : Stamped) × (reply : Reply) × (slice_get commands i ≡ Some command) × (slice_get replies i ≡ Some reply) × (is_synced command.command reply ≡ true)

-- the first k commands are at least all up to and with the last sync that is done
abbrev pub Covers : List Stamped → List Reply → ℕ → Type 0
Covers commands replies k = (i : ℕ) → IsSyncDone commands replies i → i < k

-- the objects after the first k commands, as a mount shows them
abbrev pub settled_after : Sizes → Bool → State → List Stamped → List Reply → ℕ → Objects
settled_after z read_only s commands replies k = (settle (after z read_only s commands (take k replies))).objects

-- what a loss of power leaves: the tree after some of the commands, at least all that a done sync covers; or, where no sync is done, the one before
abbrev pub PowerLossLeaves : (Objects → Type 0) → Objects → Sizes → Bool → State → List Stamped → List Reply → Type 0
PowerLossLeaves tree first z read_only s commands replies =
    ((k : ℕ) × Covers commands replies k × (k ≤ length replies) × tree (settled_after z read_only s commands replies k))
    ⊎ (Covers commands replies 0 × tree first)
