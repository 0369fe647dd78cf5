-- What the commands on descriptors answer and do, each by its tests in their order and then the effect.
-- From: POSIX: `open()`, `close()`, `read()`, `write()`, `lseek()`, `ftruncate()`, `fsync()`.
use Rattle.std.specs.Prelude.{ℕ, ◌+◌, ◌-◌, min, Bool, true, false, not, ◌&&◌, ◌||◌, List, [], ◌∷◌, length, take, drop, Option, Some, None, nat_eq, nat_lt, nat_le, if◌then◌else◌, ℤ, pos, negsuc, ◌+ℤ◌}
use Rattle.std.specs.FinMap as map
use Rattle.volume_terms.specs.Sizes.{Sizes, most_written, greatest_length, offset_limit}
use Rattle.posix_profile.specs.State.{Object, File, Dir, Objects, Handle, State, is_directory}
use Rattle.posix_profile.specs.Names.{prune}
use Rattle.posix_profile.specs.Charge.{fits}
use Rattle.posix_profile.specs.Paths.{Place, last_name, resolve}
use Rattle.posix_profile.specs.Outcomes.{Outcome, answer, refuse, unless, change_to, at_place}
use Rattle.posix_profile.specs.Changes.{greatest, new_number, free_descriptor, with_bytes, with_object, with_handle, with_offset, written, resized}
use Rattle.posix_profile.specs.declared.command.Access.{Access}
use Rattle.posix_profile.specs.declared.command.Access.TheVariants as access
use Rattle.posix_profile.specs.declared.command.OpenFlags.{OpenFlags}
use Rattle.posix_profile.specs.declared.command.Whence.{Whence}
use Rattle.posix_profile.specs.declared.command.Whence.TheVariants as whence
use Rattle.posix_profile.specs.declared.reply.Errno.{Errno}
use Rattle.posix_profile.specs.declared.reply.Errno.TheVariants as errors
use Rattle.posix_profile.specs.declared.reply.Reply.TheVariants as replies

-- whether a descriptor of this access may read
abbrev pub may_read : Access → Bool
may_read access.Read = true
may_read access.Write = false
may_read access.Both = true

-- whether a descriptor of this access may write
abbrev pub may_write : Access → Bool
may_write access.Read = false
may_write access.Write = true
may_write access.Both = true

-- what to do with what the descriptor refers to
unfoldable pub at_handle : State → Option Handle → (Handle → Outcome) → Outcome
at_handle s None act = refuse s errors.EBADF
at_handle s (Some handle) act = act handle

-- what to do with the bytes of the file that the descriptor refers to; its object is always there
unfoldable pub at_file : State → Option Object → Errno → (List ℕ → Outcome) → Outcome
at_file s None error act = refuse s errors.EBADF
at_file s (Some (File moment bytes)) error act = act bytes
at_file s (Some (Dir moment entries)) error act = refuse s error

-- what to do with the free descriptor, if there is one
unfoldable pub at_descriptor : State → Option ℕ → (ℕ → Outcome) → Outcome
at_descriptor s None act = refuse s errors.EMFILE
at_descriptor s (Some fd) act = act fd

-- the descriptor is open on the object, at offset 0
abbrev pub open_on : Objects → State → ℕ → ℕ → OpenFlags → State
open_on objects s fd o flags = with_handle (record s { objects = objects }) fd (record { object = o; flags = flags; offset = 0 })

-- Open of an object that is there
abbrev pub open_found : Sizes → Bool → ℕ → State → OpenFlags → ℕ → Outcome
open_found z read_only moment s flags o =
    unless s (
    (flags.create && flags.excl, errors.EEXIST) ∷
    (is_directory (map.get s.objects o) && (flags.create || may_write flags.access || flags.trunc), errors.EISDIR) ∷
    [])
    (at_descriptor s (free_descriptor s.handles) (λ fd.
    unless s (
    (read_only && may_write flags.access, errors.EROFS) ∷
    [])
    (change_to z s (open_on (if flags.trunc then with_bytes s.objects moment o [] else s.objects) s fd o flags) (replies.Fd fd))))

-- Open of an absent name
abbrev pub open_absent : Sizes → Bool → ℕ → State → OpenFlags → Place → Outcome
open_absent z read_only moment s flags place =
    unless s (
    (not flags.create, errors.ENOENT) ∷
    (place.slash_follows, errors.ENOENT) ∷
    [])
    (at_descriptor s (free_descriptor s.handles) (λ fd.
    unless s (
    (read_only, errors.EROFS) ∷
    [])
    (change_to z s (open_on (with_object s.objects moment place.directory (last_name place.last) (File moment [])) s fd (new_number s.objects) flags) (replies.Fd fd))))

-- Open of what is at the place
abbrev pub open_at : Sizes → Bool → ℕ → State → OpenFlags → Place → Option ℕ → Outcome
open_at z read_only moment s flags place (Some o) = open_found z read_only moment s flags o
open_at z read_only moment s flags place None = open_absent z read_only moment s flags place

-- Open: no cut of what is only read; then by the place
abbrev pub open_step : Sizes → Bool → ℕ → State → List ℕ → OpenFlags → Outcome
open_step z read_only moment s path flags =
    unless s (
    (flags.trunc && not (may_write flags.access), errors.EINVAL) ∷
    [])
    (at_place s (resolve s.objects path) (λ place. open_at z read_only moment s flags place place.object))

-- Close: the descriptor goes, and what only it held
abbrev pub close_step : State → ℕ → Outcome
close_step s fd = at_handle s (map.get s.handles fd) (λ handle. answer (prune (record s { handles = map.remove s.handles fd })) replies.Done)

-- Read: the bytes from the offset, at most so many; the offset moves by their number
abbrev pub read_step : State → ℕ → ℕ → Outcome
read_step s fd count = at_handle s (map.get s.handles fd) (λ handle.
    unless s (
    (not (may_read handle.flags.access), errors.EBADF) ∷
    [])
    (at_file s (map.get s.objects handle.object) errors.EISDIR (λ bytes.
    let there = take count (drop handle.offset bytes) in
    answer (with_offset s fd handle (handle.offset + length there)) (replies.Data there))))

-- where a write begins: with append at the end of the file
abbrev pub write_offset : Handle → List ℕ → ℕ
write_offset handle bytes = if handle.flags.append then length bytes else handle.offset

-- the objects after the first k bytes are written
abbrev pub objects_written : ℕ → State → Handle → List ℕ → List ℕ → ℕ → Objects
objects_written moment s handle bytes new k = with_bytes s.objects moment handle.object (written bytes (write_offset handle bytes) (take k new))

-- how many bytes are written: the greatest number whose result fits, of at most those given, one write's most, and up to a file's greatest length
abbrev pub write_count : Sizes → ℕ → State → Handle → List ℕ → List ℕ → ℕ
write_count z moment s handle bytes new =
    greatest (λ k. fits z (objects_written moment s handle bytes new k))
    (min (length new) (min (most_written z) (greatest_length z - write_offset handle bytes)))

-- Write of some bytes to a file
abbrev pub write_file : Sizes → ℕ → State → ℕ → Handle → List ℕ → List ℕ → Outcome
write_file z moment s fd handle new bytes =
    let offset = write_offset handle bytes in
    let k = write_count z moment s handle bytes new in
    unless s (
    (nat_le (greatest_length z) offset, errors.EFBIG) ∷
    (nat_eq k 0, errors.ENOSPC) ∷
    [])
    (answer (with_offset (record s { objects = objects_written moment s handle bytes new k }) fd handle (offset + k)) (replies.Wrote k))

-- Write of no bytes changes nothing
abbrev pub write_bytes : Sizes → ℕ → State → ℕ → Handle → List ℕ → Outcome
write_bytes z moment s fd handle [] = answer s (replies.Wrote 0)
write_bytes z moment s fd handle (byte ∷ bytes) = at_file s (map.get s.objects handle.object) errors.EBADF (write_file z moment s fd handle (byte ∷ bytes))

-- Write: to a descriptor that may write, which always represents a file
abbrev pub write_step : Sizes → ℕ → State → ℕ → List ℕ → Outcome
write_step z moment s fd new = at_handle s (map.get s.handles fd) (λ handle.
    unless s (
    (not (may_write handle.flags.access), errors.EBADF) ∷
    [])
    (write_bytes z moment s fd handle new))

-- where a seek counts from, by the offset and the file's length
abbrev pub seek_origin : Whence → ℕ → ℕ → ℕ
seek_origin whence.Set offset length = 0
seek_origin whence.Cur offset length = offset
seek_origin whence.End offset length = length

-- the descriptor gets this offset
abbrev pub seek_to : State → ℕ → Handle → ℤ → Outcome
seek_to s fd handle (negsuc n) = refuse s errors.EINVAL
seek_to s fd handle (pos n) =
    unless s (
    (nat_lt offset_limit n, errors.EOVERFLOW) ∷
    [])
    (answer (with_offset s fd handle n) (replies.At n))

-- Seek: the offset moves, the file does not grow
abbrev pub seek_step : State → ℕ → ℤ → Whence → Outcome
seek_step s fd offset origin = at_handle s (map.get s.handles fd) (λ handle.
    at_file s (map.get s.objects handle.object) errors.EINVAL (λ bytes.
    seek_to s fd handle (pos (seek_origin origin handle.offset (length bytes)) +ℤ offset)))

-- the file is cut to the length or grown to it
abbrev pub truncate_to : Sizes → ℕ → State → Handle → ℤ → Outcome
truncate_to z moment s handle (negsuc n) = refuse s errors.EINVAL
truncate_to z moment s handle (pos n) =
    unless s (
    (nat_lt (greatest_length z) n, errors.EFBIG) ∷
    [])
    (at_file s (map.get s.objects handle.object) errors.EINVAL (λ bytes.
    change_to z s (record s { objects = with_bytes s.objects moment handle.object (resized bytes n) }) replies.Done))

-- Truncate: of a descriptor that may write, which always represents a file; the offset stays
abbrev pub truncate_step : Sizes → ℕ → State → ℕ → ℤ → Outcome
truncate_step z moment s fd length = at_handle s (map.get s.handles fd) (λ handle.
    unless s (
    (not (may_write handle.flags.access), errors.EINVAL) ∷
    [])
    (truncate_to z moment s handle length))

-- Fsync
abbrev pub fsync_step : State → ℕ → Outcome
fsync_step s fd = at_handle s (map.get s.handles fd) (λ handle. answer s replies.Done)
