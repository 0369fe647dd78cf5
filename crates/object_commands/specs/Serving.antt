-- What one call of a volume does.
use Rattle.std.specs.Prelude.{◌≡◌, ◌&&◌, Bool, true, false, not}
use Rattle.command_plans.specs.Classes.{class_of, is_error, makes_no_call}
use Rattle.object_commands.specs.Endings.{OfVolume, ReadsOrLeaves, CommandEnds}
use Rattle.object_commands.specs.Volumes.{store_of, handles_of, is_read_only, is_stopped}
use Rattle.object_commands.specs.declared.volume.Volume.{Volume}
use Rattle.object_store.specs.Stores.{Meaning}
use Rattle.posix_profile.specs.Runs.{takes_no_memory, is_stop}
use Rattle.posix_profile.specs.Steps.{step}
use Rattle.posix_profile.specs.declared.command.Stamped.{Stamped}
use Rattle.posix_profile.specs.declared.reply.Errno.TheVariants as errors
use Rattle.posix_profile.specs.declared.reply.Reply.{Reply}
use Rattle.posix_profile.specs.declared.reply.Reply.TheVariants as replies

-- whether a reply is an error after which the volume goes on: any but EIO
abbrev pub is_refusal : Reply → Bool
is_refusal reply = is_error reply && not (is_stop reply)

-- Nothing is changed: the store was only read, and the descriptors refer to what they did.
pub record StaysAsItWas {S : Type 0} (m : Meaning S) (old new : Volume S) : Type 0 where
  pub store : m.reads (store_of old) (store_of new)
  pub handles : handles_of new ≡ handles_of old

-- a reply other than EIO leaves the device its power
abbrev pub LeavesPower : {S : Type 0} (m : Meaning S) → Volume S → Reply → Volume S → Type 0
LeavesPower m old reply new = is_stop reply ≡ false → m.has_power (store_of old) ≡ true → m.has_power (store_of new) ≡ true

-- from a state that the volume represents, EIO is answered only where the store was only read, and a read failed
abbrev pub StopsUnread : {S : Type 0} (m : Meaning S) → Volume S → Reply → Volume S → Type 0
StopsUnread m old reply new = OfVolume m old (λ z s. is_stop reply ≡ true → m.unread (store_of old) (store_of new))

-- from each state that the volume represents, it ends as the command does there
abbrev pub EndsAs : {S : Type 0} (m : Meaning S) → Volume S → Stamped → Reply → Volume S → Type 0
EndsAs m old command reply new = OfVolume m old (λ z s.
    CommandEnds m z (class_of (is_read_only old) s command.command) (takes_no_memory command.command) s (step z (is_read_only old) s command) old new reply)

-- A volume that is stopped answers EIO and stays as it is; another one is stopped by EIO alone, and from a state that it represents it ends as
-- the command does. An error other than EIO changes nothing, of any store. A reply other than EIO leaves the device its power; what makes no call of the device leaves it. A read-only volume only
-- reads, or makes no call, and stops only where a read failed.
pub record IsServed {S : Type 0} (m : Meaning S) (old : Volume S) (command : Stamped) (reply : Reply) (new : Volume S) : Type 0 where
  pub keeps : is_read_only new ≡ is_read_only old
  pub lasts : m.lasts (store_of old) (store_of new)
  pub power : LeavesPower m old reply new
  pub leaves : makes_no_call command.command ≡ true → m.leaves (store_of old) (store_of new)
  pub only : is_read_only old ≡ true → OfVolume m old (λ z s. ReadsOrLeaves m (store_of old) (store_of new))
  pub unread : is_read_only old ≡ true → is_stopped old ≡ false → StopsUnread m old reply new
  pub stopped : is_stopped old ≡ true → (reply ≡ replies.Error errors.EIO) × (new ≡ old)
  pub stops : is_stopped old ≡ false → is_stopped new ≡ is_stop reply
  pub refuses : is_refusal reply ≡ true → StaysAsItWas m old new
  pub ends : is_stopped old ≡ false → EndsAs m old command reply new
