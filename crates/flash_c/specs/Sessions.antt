-- What a session does, over anything that serves commands.
use Rattle.std.specs.Prelude.{◌≡◌, ◌⊎◌, ◌≤◌, ℕ, ◌+◌, ◌==◌, if◌then◌else◌, ℤ, List, length, drop}
use Rattle.posix_profile.specs.declared.command.Command.{Command}
use Rattle.posix_profile.specs.declared.command.Command.TheVariants as commands
use Rattle.posix_profile.specs.declared.command.Stamped.{Stamped}
use Rattle.posix_profile.specs.declared.reply.Reply.{Reply}
use Rattle.posix_profile.specs.declared.reply.Reply.TheVariants as replies
use Rattle.flash_c.specs.Numbers.{count_number, signed}

-- a command with its moment
abbrev pub at : ℕ → Command → Stamped
at moment command = record { moment = moment; command = command }

-- what a write is to do: bytes at the offset of a descriptor
pub record Writing : Type 0 where
  pub moment : ℕ
  pub fd : ℕ
  pub bytes : List ℕ

-- the command of a write of which so many bytes are written: all that are left
abbrev pub rest_write : Writing → ℕ → Stamped
rest_write issued done = at issued.moment (commands.Write issued.fd (drop done issued.bytes))

-- commands that wrote so many bytes of a write, one after the other, each of which was handed all that were left
pub data HasWritten {S : Type 0} (serves : S → Stamped → Reply → S → Type 0) (issued : Writing) (old : S) : ℕ → S → Type 0 where
  none : HasWritten serves issued old 0 old
  more : {done count : ℕ} {mid new : S} → HasWritten serves issued old done mid → serves mid (rest_write issued done) (replies.Wrote count) new
      → HasWritten serves issued old (done + count) new

-- what a write returns whose last command has this reply: how many bytes it wrote, or the error where these are none
abbrev pub write_number : ℕ → Reply → ℤ
write_number done (replies.Wrote count) = signed (done + count)
write_number done reply = if done == 0 then count_number reply else signed done

-- A write goes on until a command wrote none, or all is written, or there is an error.
pub record IsWritten {S : Type 0} (serves : S → Stamped → Reply → S → Type 0) (issued : Writing) (old : S) (result : ℤ) (new : S) : Type 0 where
  pub done : ℕ
  pub mid : S
  pub reply : Reply
  pub before : HasWritten serves issued old done mid
  pub last : serves mid (rest_write issued done) reply new
  pub result_is : result ≡ write_number done reply
  pub ends : (count : ℕ) → reply ≡ replies.Wrote count → (count ≡ 0) ⊎ (length issued.bytes ≤ done + count)
