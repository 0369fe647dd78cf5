-- What a read and a write do at an offset of their own, over anything that serves commands.
use Rattle.std.specs.Prelude.{◌≡◌, ◌⊎◌, ◌<ℤ◌, ◌≤ℤ◌, ℕ, true, false, Result, Ok, Err, ℤ, pos, List, []}
use Rattle.posix_profile.specs.declared.command.Command.TheVariants as commands
use Rattle.posix_profile.specs.declared.command.Stamped.{Stamped}
use Rattle.posix_profile.specs.declared.command.Whence.{Whence}
use Rattle.posix_profile.specs.declared.command.Whence.TheVariants as origins
use Rattle.posix_profile.specs.declared.reply.Errno.TheVariants as errors
use Rattle.posix_profile.specs.declared.reply.Reply.{Reply}
use Rattle.flash_c.specs.Numbers.{count_number, error_number}
use Rattle.flash_c.specs.Questions.{IsRead}
use Rattle.flash_c.specs.Sessions.{at, IsWritten}
use Rattle.flash_c.specs.declared.session.Session.{Session}
use Rattle.flash_c.specs.declared.slot.Slot.{Slot}

-- a place in the file of a descriptor
pub record Place : Type 0 where
  pub fd : ℕ
  pub offset : ℤ

-- what was done at a place: the offset of the descriptor before, and what it returned
pub record Visit : Type 0 where
  pub fd : ℕ
  pub was : ℤ
  pub number : ℤ

-- a read at a place: the buffer before it, what it returned, and the buffer after it
pub record PlacedRead : Type 0 where
  pub place : Place
  pub before : List ℕ
  pub number : ℤ
  pub after : List ℕ

-- the same, from its parts
abbrev pub placed_read : (fd : ℕ) → (offset : ℤ) → (before : List ℕ) → (number : ℤ) → (after : List ℕ) → PlacedRead
placed_read fd offset before number after = record { place = record { fd = fd; offset = offset }; before = before; number = number; after = after }

-- what a write at a place is to do
pub record PlacedWrite : Type 0 where
  pub moment : ℕ
  pub place : Place
  pub bytes : List ℕ

-- the same, from its parts
abbrev pub placed_write : (moment fd : ℕ) → (offset : ℤ) → (bytes : List ℕ) → PlacedWrite
placed_write moment fd offset bytes = record { moment = moment; place = record { fd = fd; offset = offset }; bytes = bytes }

-- a seek of a descriptor, and the number of its reply
abbrev pub Seeks : {S : Type 0} → (S → Stamped → Reply → S → Type 0) → S → Place × Whence → ℤ → S → Type 0
Seeks serves old issued number new = (reply : Reply) × serves old (at 0 (commands.Seek issued.0.fd issued.0.offset issued.1)) reply new × (number ≡ count_number reply)

-- a seek by nothing from where the descriptor is, which returns its offset
abbrev pub here : ℕ → Place × Whence
here fd = (record { fd = fd; offset = pos 0 }, origins.Cur)

-- a seek to a place
abbrev pub to : Place → Place × Whence
to place = (place, origins.Set)

-- A descriptor's offset was read and set: Ok is what it was. Err is the number of the error of a seek, which is the last.
pub data GoesTo {S : Type 0} (serves : S → Stamped → Reply → S → Type 0) (old : S) (place : Place) : Result ℤ ℤ → S → Type 0 where
  there : {was now : ℤ} {issued new : S} → Seeks serves old (here place.fd) was issued → pos 0 ≤ℤ was → Seeks serves issued (to place) now new
      → pos 0 ≤ℤ now → GoesTo serves old place (Ok was) new
  not_asked : {number : ℤ} {new : S} → Seeks serves old (here place.fd) number new → number <ℤ pos 0 → GoesTo serves old place (Err number) new
  not_set : {was number : ℤ} {issued new : S} → Seeks serves old (here place.fd) was issued → pos 0 ≤ℤ was → Seeks serves issued (to place) number new
      → number <ℤ pos 0 → GoesTo serves old place (Err number) new

-- The descriptor's offset was set back: the number is that of the visit, or of the error of the seek.
abbrev pub GoesBack : {S : Type 0} → (S → Stamped → Reply → S → Type 0) → S → Visit → ℤ → S → Type 0
GoesBack serves old visit result new = (back : ℤ) × Seeks serves old (to (record { fd = visit.fd; offset = visit.was })) back new
    × (((back <ℤ pos 0) × (result ≡ back)) ⊎ ((pos 0 ≤ℤ back) × (result ≡ visit.number)))

-- a read of no bytes, and its number
abbrev pub ReadsNone : {S : Type 0} → (S → Stamped → Reply → S → Type 0) → S → ℕ → ℤ → S → Type 0
ReadsNone serves old fd number new = (left : List ℕ) × IsRead serves old (record { fd = fd; before = []; number = number; after = left }) new

-- A read at a place: a read of no bytes tests the descriptor, its offset is read and set, the bytes are read, and its offset is set
-- back. What returns an error before the read is the last, and the buffer stays.
pub data IsReadAt {S : Type 0} (serves : S → Stamped → Reply → S → Type 0) (old : S) (r : PlacedRead) (new : S) : Type 0 where
  refused : ReadsNone serves old r.place.fd r.number new → r.number <ℤ pos 0 → r.after ≡ r.before → IsReadAt serves old r new
  not_there : {none : ℤ} {tried : S} → ReadsNone serves old r.place.fd none tried → pos 0 ≤ℤ none → GoesTo serves tried r.place (Err r.number) new
      → r.after ≡ r.before → IsReadAt serves old r new
  done : {none was number : ℤ} {tried there left : S} → ReadsNone serves old r.place.fd none tried → pos 0 ≤ℤ none → GoesTo serves tried r.place (Ok was) there
      → IsRead serves there (record { fd = r.place.fd; before = r.before; number = number; after = r.after }) left
      → GoesBack serves left (record { fd = r.place.fd; was = was; number = number }) r.number new → IsReadAt serves old r new

-- A write at a place: a write of no bytes tests the descriptor, its offset is read and set, the bytes are written, and its offset is
-- set back. What returns an error before the write is the last.
pub data IsWrittenAt {S : Type 0} (serves : S → Stamped → Reply → S → Type 0) (old : S) (issued : PlacedWrite) (result : ℤ) (new : S) : Type 0 where
  refused : IsWritten serves (record { moment = issued.moment; fd = issued.place.fd; bytes = [] }) old result new → result <ℤ pos 0
      → IsWrittenAt serves old issued result new
  not_there : {none : ℤ} {tried : S} → IsWritten serves (record { moment = issued.moment; fd = issued.place.fd; bytes = [] }) old none tried → pos 0 ≤ℤ none
      → GoesTo serves tried issued.place (Err result) new → IsWrittenAt serves old issued result new
  done : {none was number : ℤ} {tried there left : S} → IsWritten serves (record { moment = issued.moment; fd = issued.place.fd; bytes = [] }) old none tried
      → pos 0 ≤ℤ none → GoesTo serves tried issued.place (Ok was) there
      → IsWritten serves (record { moment = issued.moment; fd = issued.place.fd; bytes = issued.bytes }) there number left
      → GoesBack serves left (record { fd = issued.place.fd; was = was; number = number }) result new → IsWrittenAt serves old issued result new

-- A read at a place, in a slot: that of the session of a full one, which stays full. An empty one returns EINVAL, and nothing changes.
pub record ReadsAtIn (serves : Session → Stamped → Reply → Session → Type 0) (old : Slot) (r : PlacedRead) (new : Slot) : Type 0 where
  pub full : new.full ≡ old.full
  pub read : old.full ≡ true → IsReadAt serves old.session r new.session
  pub empty : old.full ≡ false → (r.number ≡ error_number errors.EINVAL) × (r.after ≡ r.before) × (new ≡ old)

-- A write at a place, in a slot: that of the session of a full one, which stays full. An empty one returns EINVAL, and stays.
pub record WritesAtIn (serves : Session → Stamped → Reply → Session → Type 0) (old : Slot) (issued : PlacedWrite) (result : ℤ) (new : Slot) : Type 0 where
  pub full : new.full ≡ old.full
  pub written : old.full ≡ true → IsWrittenAt serves old.session issued result new.session
  pub empty : old.full ≡ false → (result ≡ error_number errors.EINVAL) × (new ≡ old)
