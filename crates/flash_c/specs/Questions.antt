-- What the commands do that fill the caller's memory, where this is the relation of one call to what it is made on.
use Rattle.std.specs.Prelude.{◌≡◌, ℕ, min, ℤ, List, length}
use Rattle.posix_profile.specs.declared.command.Command.TheVariants as commands
use Rattle.posix_profile.specs.declared.command.Stamped.{Stamped}
use Rattle.posix_profile.specs.declared.reply.Reply.{Reply}
use Rattle.flash_c.specs.Filling.{HasData, data_number, names_number, names_filled, info_number, info_filled, space_number, space_filled}
use Rattle.flash_c.specs.Sessions.{at}
use Rattle.flash_c.specs.declared.filling.FlashInfo.{FlashInfo}
use Rattle.flash_c.specs.declared.filling.FlashSpace.{FlashSpace}

-- a read: the descriptor, the buffer before it, what it returned, and the buffer after it
pub record Reading : Type 0 where
  pub fd : ℕ
  pub before : List ℕ
  pub number : ℤ
  pub after : List ℕ

-- a list: the path, the buffer before it, what it returned, and the buffer after it
pub record Listing : Type 0 where
  pub path : List ℕ
  pub before : List ℕ
  pub number : ℤ
  pub after : List ℕ

-- the same, from its parts
abbrev pub listing_of : (path before : List ℕ) → (number : ℤ) → (after : List ℕ) → Listing
listing_of path before number after = record { path = path; before = before; number = number; after = after }

-- a stat: the path, the struct before it, what it returned, and the struct after it
pub record Stating : Type 0 where
  pub path : List ℕ
  pub before : FlashInfo
  pub number : ℤ
  pub after : FlashInfo

-- a question for the room: the struct before it, what it returned, and the struct after it
pub record Room : Type 0 where
  pub before : FlashSpace
  pub number : ℤ
  pub after : FlashSpace

-- A read asks for as many bytes as the buffer has room for, and a command can ask. Its number is that of the reply, whose data it has in the
-- buffer.
abbrev pub IsRead : {S : Type 0} → (S → Stamped → Reply → S → Type 0) → S → Reading → S → Type 0
IsRead serves old r new = (reply : Reply) × serves old (at 0 (commands.Read r.fd (min (length r.before) 4294967295))) reply new
    × (r.number ≡ data_number (length r.before) reply) × HasData r.before reply r.after

-- the number and the buffer of a list are those of the reply
abbrev pub IsListed : {S : Type 0} → (S → Stamped → Reply → S → Type 0) → S → Listing → S → Type 0
IsListed serves old l new = (reply : Reply) × serves old (at 0 (commands.List l.path)) reply new
    × (l.number ≡ names_number (length l.before) reply) × (l.after ≡ names_filled l.before reply)

-- the number and the struct of a stat are those of the reply
abbrev pub IsStat : {S : Type 0} → (S → Stamped → Reply → S → Type 0) → S → Stating → S → Type 0
IsStat serves old s new = (reply : Reply) × serves old (at 0 (commands.Stat s.path)) reply new
    × (s.number ≡ info_number reply) × (s.after ≡ info_filled s.before reply)

-- the number and the struct of a question for the room are those of the reply
abbrev pub IsRoom : {S : Type 0} → (S → Stamped → Reply → S → Type 0) → S → Room → S → Type 0
IsRoom serves old r new = (reply : Reply) × serves old (at 0 commands.Space) reply new
    × (r.number ≡ space_number reply) × (r.after ≡ space_filled r.before reply)
