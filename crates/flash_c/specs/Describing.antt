-- What is reported of a descriptor.
use Rattle.std.specs.Prelude.{◌≡◌, ℕ, true, false, Result, Ok, Err, ℤ}
use Rattle.posix_profile.specs.declared.reply.Errno.{Errno}
use Rattle.posix_profile.specs.declared.reply.Errno.TheVariants as errors
use Rattle.posix_profile.specs.declared.reply.Info.{Info}
use Rattle.posix_profile.specs.declared.reply.Reply.{Reply}
use Rattle.posix_profile.specs.declared.reply.Reply.TheVariants as replies
use Rattle.flash_c.specs.Filling.{info_number, info_filled}
use Rattle.flash_c.specs.Numbers.{error_number}
use Rattle.flash_c.specs.declared.filling.FlashInfo.{FlashInfo}
use Rattle.flash_c.specs.declared.session.Session.{Session}
use Rattle.flash_c.specs.declared.slot.Slot.{Slot}

-- a question for a descriptor: the struct before it, what it returned, and the struct after it
pub record Describing : Type 0 where
  pub fd : ℕ
  pub before : FlashInfo
  pub number : ℤ
  pub after : FlashInfo

-- the reply of a Stat that reports this
abbrev pub stat_reply : Result Info Errno → Reply
stat_reply (Ok info) = replies.Info info
stat_reply (Err error) = replies.Error error

-- the number and the struct are those of a Stat that reports what is reported of the descriptor
abbrev pub IsFstat : {S : Type 0} → (S → ℕ → Result Info Errno → Type 0) → S → Describing → Type 0
IsFstat describes s d = (reported : Result Info Errno) × describes s d.fd reported × (d.number ≡ info_number (stat_reply reported)) × (d.after ≡ info_filled d.before (stat_reply reported))

-- A question for a descriptor, in a slot: it changes nothing of the session of a full one. An empty one returns EINVAL, and nothing changes.
pub record DescribesIn (describes : Session → ℕ → Result Info Errno → Type 0) (old : Slot) (d : Describing) (new : Slot) : Type 0 where
  pub full : new.full ≡ old.full
  pub described : old.full ≡ true → IsFstat describes old.session d × (new.session ≡ old.session)
  pub empty : old.full ≡ false → (d.number ≡ error_number errors.EINVAL) × (d.after ≡ d.before) × (new ≡ old)
