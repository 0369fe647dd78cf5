-- What buffers and structs hold after a reply.
use Rattle.std.specs.Prelude.{◌≡◌, ◌⊎◌, ℕ, nat_le, if◌then◌else◌, ℤ, pos, List, [], ◌∷◌, ◌++◌, length, drop, flat_map}
use Rattle.posix_profile.specs.declared.reply.Errno.TheVariants as errors
use Rattle.posix_profile.specs.declared.reply.Kind.{Kind}
use Rattle.posix_profile.specs.declared.reply.Kind.TheVariants as kinds
use Rattle.posix_profile.specs.declared.reply.Reply.{Reply}
use Rattle.posix_profile.specs.declared.reply.Reply.TheVariants as replies
use Rattle.flash_c.specs.Numbers.{error_number, no_room, signed}
use Rattle.flash_c.specs.declared.filling.FlashInfo.{FlashInfo}
use Rattle.flash_c.specs.declared.filling.FlashSpace.{FlashSpace}

-- bytes at the front of a buffer, and after them what was there; a buffer that has no room for them stays
abbrev pub filled : List ℕ → List ℕ → List ℕ
filled old bytes = if nat_le (length bytes) (length old) then bytes ++ drop (length bytes) old else old

-- how many bytes were put in a buffer of so many, or the error where they have no room
abbrev pub filled_number : ℕ → ℤ → List ℕ → ℤ
filled_number room error bytes = if nat_le (length bytes) room then signed (length bytes) else error

-- the names, each with a zero after it
abbrev pub names_bytes : List (List ℕ) → List ℕ
names_bytes names = flat_map (λ name. name ++ (0 ∷ [])) names

-- what a read returns: how many bytes, or the error
abbrev pub data_number : ℕ → Reply → ℤ
data_number room (replies.Data bytes) = filled_number room (error_number errors.EIO) bytes
data_number room (replies.Error error) = error_number error
data_number room reply = error_number errors.EIO

-- the buffer after a read: the data at its front, and after it what was there; after an error it is as it was, but EIO and ENOMEM, after which it
-- may hold anything
abbrev pub HasData : List ℕ → Reply → List ℕ → Type 0
HasData before (replies.Data bytes) after = after ≡ filled before bytes
HasData before (replies.Error error) after = (length after ≡ length before) × ((error ≡ errors.EIO) ⊎ ((error ≡ errors.ENOMEM) ⊎ (after ≡ before)))
HasData before reply after = after ≡ before

-- what a list returns: how many bytes the names take; ERANGE where the buffer has no room for them; or the error
abbrev pub names_number : ℕ → Reply → ℤ
names_number room (replies.Names names) = filled_number room no_room (names_bytes names)
names_number room (replies.Error error) = error_number error
names_number room reply = error_number errors.EIO

-- the buffer after a list: the names, and after them what was there
abbrev pub names_filled : List ℕ → Reply → List ℕ
names_filled old (replies.Names names) = filled old (names_bytes names)
names_filled old reply = old

-- 1 is a file, 2 a directory
abbrev pub kind_number : Kind → ℕ
kind_number kinds.File = 1
kind_number kinds.Directory = 2

-- what a stat returns: 0, or the error
abbrev pub info_number : Reply → ℤ
info_number (replies.Info info) = pos 0
info_number (replies.Error error) = error_number error
info_number reply = error_number errors.EIO

-- the struct after a stat: what the reply says of the object, else as it was
abbrev pub info_filled : FlashInfo → Reply → FlashInfo
info_filled old (replies.Info info) = record { kind = kind_number info.kind; object = info.object; links = info.links; size = info.size; moment = info.moment }
info_filled old reply = old

-- what a question for the room of the volume returns: 0, or the error
abbrev pub space_number : Reply → ℤ
space_number (replies.SpaceInfo space) = pos 0
space_number (replies.Error error) = error_number error
space_number reply = error_number errors.EIO

-- the struct after it: what the reply says of the room, else as it was
abbrev pub space_filled : FlashSpace → Reply → FlashSpace
space_filled old (replies.SpaceInfo space) = record { unit = space.unit; total = space.total; free = space.free }
space_filled old reply = old
