-- What the functions do to a slot.
use Rattle.std.specs.Prelude.{◌≡◌, ◌≢◌, ◌≤ℤ◌, Bool, true, false, ℤ, pos, if◌then◌else◌}
use Rattle.posix_calls.specs.PageVolumes.{is_stopped}
use Rattle.posix_calls.specs.Volumes.{over_pages}
use Rattle.posix_profile.specs.declared.command.Stamped.{Stamped}
use Rattle.posix_profile.specs.declared.reply.Errno.TheVariants as errors
use Rattle.posix_profile.specs.declared.reply.Reply.{Reply}
use Rattle.posix_profile.specs.declared.reply.Reply.TheVariants as replies
use Rattle.flash_c.specs.Numbers.{error_number, done_number, count_number}
use Rattle.flash_c.specs.Sessions.{Writing, IsWritten}
use Rattle.flash_c.specs.declared.session.Session.{Session}
use Rattle.flash_c.specs.declared.slot.Slot.{Slot}

-- What a command in a slot is answered. The session of a full slot serves it, and the slot stays full. An empty slot answers EINVAL.
pub data Replied (serves : Session → Stamped → Reply → Session → Type 0) (old : Slot) (command : Stamped) : Reply → Slot → Type 0 where
  served : {reply : Reply} {new : Slot} → old.full ≡ true → new.full ≡ true → serves old.session command reply new.session
      → Replied serves old command reply new
  empty : {new : Slot} → old.full ≡ false → new ≡ old → Replied serves old command (replies.Error errors.EINVAL) new

-- a command that only succeeds or fails, in a slot
abbrev pub IsDone : (Session → Stamped → Reply → Session → Type 0) → Slot → Stamped → ℤ → Slot → Type 0
IsDone serves old command result new = (reply : Reply) × Replied serves old command reply new × (result ≡ done_number reply)

-- a command that counts, in a slot
abbrev pub IsCounted : (Session → Stamped → Reply → Session → Type 0) → Slot → Stamped → ℤ → Slot → Type 0
IsCounted serves old command result new = (reply : Reply) × Replied serves old command reply new × (result ≡ count_number reply)

-- A write in a slot: the session of a full slot writes, and the slot stays full. An empty slot returns EINVAL, and stays.
pub record WritesIn (serves : Session → Stamped → Reply → Session → Type 0) (old : Slot) (issued : Writing) (result : ℤ) (new : Slot) : Type 0 where
  pub full : new.full ≡ old.full
  pub written : old.full ≡ true → IsWritten serves issued old.session result new.session
  pub empty : old.full ≡ false → (result ≡ error_number errors.EINVAL) × (new ≡ old)

-- A question on the session of a slot: 1 is yes, 0 no. It changes nothing. An empty slot returns EINVAL.
pub record IsAsked (old : Slot) (yes : Bool) (result : ℤ) (new : Slot) : Type 0 where
  pub full : new.full ≡ old.full
  pub answer : old.full ≡ true → (result ≡ (if yes then pos 1 else pos 0)) × (new.session ≡ old.session)
  pub empty : old.full ≡ false → (result ≡ error_number errors.EINVAL) × (new ≡ old)

-- A mount in a slot: 0 fills it with a session that is not stopped; any other number is below 0, and leaves it. A full slot returns EBUSY.
pub record FillsSlot (old : Slot) (result : ℤ) (new : Slot) : Type 0 where
  pub mounted : result ≡ pos 0 → (new.full ≡ true) × (is_stopped (over_pages new.session.volume) ≡ false)
  pub left : result ≢ pos 0 → new ≡ old
  pub at_most_0 : result ≤ℤ pos 0
  pub busy : old.full ≡ true → result ≡ error_number errors.EBUSY
