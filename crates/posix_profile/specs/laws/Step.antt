-- Each step keeps a state one that a volume can have, and one that fits.
use Rattle.std.specs.Prelude.{◌≡◌, ℕ, ◌<◌, ◌^◌, Bool, true, false, List, [], ◌∷◌, cond}
use Rattle.volume_terms.specs.Sizes.{Sizes, IsSizes}
use Rattle.posix_profile.specs.State.{State}
use Rattle.posix_profile.specs.Charge.{fits}
use Rattle.posix_profile.specs.Names.{settle}
use Rattle.posix_profile.specs.WellFormed.{IsWellFormed}
use Rattle.posix_profile.specs.Steps.{step_at, step}
use Rattle.posix_profile.specs.Runs.{is_no_memory, is_stop, after_one, after}
use Rattle.posix_profile.specs.laws.Prune.{settle_well_formed}
use Rattle.posix_profile.specs.laws.Charge.{settle_fits}
use Rattle.posix_profile.specs.laws.Sound.{IsSound, HasBytes, IsStamped, LeavesSound}
use Rattle.posix_profile.specs.laws.HandleStep.{open_sound, close_sound, read_sound, write_sound, seek_sound, truncate_sound, fsync_sound}
use Rattle.posix_profile.specs.laws.NameStep.{stat_sound, mkdir_sound, rmdir_sound, unlink_sound, link_sound, rename_sound, list_sound, space_sound}
use Rattle.posix_profile.specs.declared.command.Command.{Command}
use Rattle.posix_profile.specs.declared.command.Command.TheVariants as commands
use Rattle.posix_profile.specs.declared.command.Stamped.{Stamped}
use Rattle.posix_profile.specs.declared.reply.Reply.{Reply}

module _ (z : Sizes) (sizes : IsSizes z) (read_only : Bool) (s : State) (sound : IsSound z s) (moment : ℕ) (small : moment < 2 ^ 64) where
  command_sound : (command : Command) → HasBytes command → LeavesSound z (step_at z read_only s moment command)
  unfolding step_at
  command_sound (commands.Open path flags) are = open_sound z sizes read_only moment small s sound path flags are
  command_sound (commands.Close fd) are = close_sound z sizes read_only moment small s sound fd
  command_sound (commands.Read fd count) are = read_sound z sizes read_only moment small s sound fd count
  command_sound (commands.Write fd bytes) are = write_sound z sizes read_only moment small s sound fd bytes are
  command_sound (commands.Seek fd offset whence) are = seek_sound z sizes read_only moment small s sound fd offset whence
  command_sound (commands.Truncate fd length) are = truncate_sound z sizes read_only moment small s sound fd length
  command_sound (commands.Fsync fd) are = fsync_sound z sizes read_only moment small s sound fd
  command_sound commands.Sync are = record { sound = sound }
  command_sound (commands.Stat path) are = stat_sound z sizes read_only moment small s sound path
  command_sound (commands.Mkdir path) are = mkdir_sound z sizes read_only moment small s sound path are
  command_sound (commands.Rmdir path) are = rmdir_sound z sizes read_only moment small s sound path are
  command_sound (commands.Link old new) are = link_sound z sizes read_only moment small s sound old new are.0 are.1
  command_sound (commands.Unlink path) are = unlink_sound z sizes read_only moment small s sound path are
  command_sound (commands.Rename old new) are = rename_sound z sizes read_only moment small s sound old new are.0 are.1
  command_sound (commands.List path) are = list_sound z sizes read_only moment small s sound path
  command_sound commands.Space are = space_sound z sizes read_only moment small s sound

-- the state after a step is one that a volume can have, and fits, where the state before it is and does
pub step_sound : (z : Sizes) (read_only : Bool) (s : State) (stamped : Stamped) → IsSizes z → IsStamped stamped → IsSound z s → IsSound z (step z read_only s stamped).state
step_sound z read_only s stamped sizes is sound = (command_sound z sizes read_only s sound stamped.moment is.moment stamped.command is.bytes).sound

-- What a step begins with: sizes that a volume can have, a command as its types allow, and a state that a volume can have and that fits.
pub record CanStep (z : Sizes) (s : State) (stamped : Stamped) : Type 0 where
  pub sizes : IsSizes z
  pub command : IsStamped stamped
  pub sound : IsSound z s

pub step_well_formed : (z : Sizes) (read_only : Bool) (s : State) (stamped : Stamped) → CanStep z s stamped → IsWellFormed z (step z read_only s stamped).state
step_well_formed z read_only s stamped can = (step_sound z read_only s stamped can.sizes can.command can.sound).well_formed

pub step_fits : (z : Sizes) (read_only : Bool) (s : State) (stamped : Stamped) → CanStep z s stamped → fits z (step z read_only s stamped).state.objects ≡ true
step_fits z read_only s stamped can = (step_sound z read_only s stamped can.sizes can.command can.sound).fit

-- stamped commands as the types allow them
abbrev pub AreStamped : List Stamped → Type 0
AreStamped [] = Unit {0}
AreStamped (stamped ∷ rest) = IsStamped stamped × AreStamped rest

-- What a run begins with: the same, of all its commands.
pub record CanRun (z : Sizes) (s : State) (commands : List Stamped) : Type 0 where
  pub sizes : IsSizes z
  pub stamped : AreStamped commands
  pub sound : IsSound z s

after_one_sound : (z : Sizes) (read_only : Bool) (s : State) (stamped : Stamped) (reply : Reply) → IsSizes z → IsStamped stamped → IsSound z s → IsSound z (after_one z read_only s stamped reply)
after_one_sound z read_only s stamped reply sizes is sound = go (is_no_memory reply) (is_stop reply) (step_sound z read_only s stamped sizes is sound)
  where
    go : (a b : Bool) → IsSound z (step z read_only s stamped).state → IsSound z (cond a s (cond b s (step z read_only s stamped).state))
    go true b next = sound
    go false true next = sound
    go false false next = next

-- so is the state after any answered commands
pub after_sound : (z : Sizes) (read_only : Bool) (s : State) (commands : List Stamped) (replies : List Reply) → IsSizes z → AreStamped commands → IsSound z s → IsSound z (after z read_only s commands replies)
after_sound z read_only s commands [] sizes are sound = sound
after_sound z read_only s [] (reply ∷ replies) sizes are sound = sound
after_sound z read_only s (stamped ∷ commands) (reply ∷ replies) sizes are sound =
    after_sound z read_only (after_one z read_only s stamped reply) commands replies sizes are.1 (after_one_sound z read_only s stamped reply sizes are.0 sound)

pub after_well_formed : (z : Sizes) (read_only : Bool) (s : State) (commands : List Stamped) (replies : List Reply) → CanRun z s commands → IsWellFormed z (after z read_only s commands replies)
after_well_formed z read_only s commands replies can = (after_sound z read_only s commands replies can.sizes can.stamped can.sound).well_formed

-- and what a mount then shows
pub settle_sound : (z : Sizes) (s : State) → IsSound z s → IsSound z (settle s)
settle_sound z s sound = record { well_formed = settle_well_formed z s sound.well_formed; fit = settle_fits z s sound.fit }
