-- The numbers that the functions return: 0, a count, or below 0 an error, by the numbers that Linux gives them.
use Rattle.std.specs.Prelude.{ℕ, ◌^◌, nat_lt, if◌then◌else◌, ℤ, pos, neg_ℤ}
use Rattle.port_nand.specs.declared.sizes.OpenFault.{OpenFault}
use Rattle.port_nand.specs.declared.sizes.OpenFault.TheVariants as opens
use Rattle.formatting.specs.declared.fault.FormatFault.{FormatFault}
use Rattle.formatting.specs.declared.fault.FormatFault.TheVariants as formats
use Rattle.mounting.specs.declared.fault.MountFault.{MountFault}
use Rattle.mounting.specs.declared.fault.MountFault.TheVariants as mounts
use Rattle.posix_profile.specs.declared.reply.Errno.{Errno}
use Rattle.posix_profile.specs.declared.reply.Errno.TheVariants as errors
use Rattle.posix_profile.specs.declared.reply.Reply.{Reply}
use Rattle.posix_profile.specs.declared.reply.Reply.TheVariants as replies
use Rattle.salvage.specs.declared.fault.SalvageFault.{SalvageFault}
use Rattle.salvage.specs.declared.fault.SalvageFault.TheVariants as salvages

-- the number of an error
abbrev pub error_number : Errno → ℤ
error_number errors.EPERM = neg_ℤ (pos 1)
error_number errors.ENOENT = neg_ℤ (pos 2)
error_number errors.EIO = neg_ℤ (pos 5)
error_number errors.EBADF = neg_ℤ (pos 9)
error_number errors.ENOMEM = neg_ℤ (pos 12)
error_number errors.EBUSY = neg_ℤ (pos 16)
error_number errors.EEXIST = neg_ℤ (pos 17)
error_number errors.ENOTDIR = neg_ℤ (pos 20)
error_number errors.EISDIR = neg_ℤ (pos 21)
error_number errors.EINVAL = neg_ℤ (pos 22)
error_number errors.EMFILE = neg_ℤ (pos 24)
error_number errors.EFBIG = neg_ℤ (pos 27)
error_number errors.ENOSPC = neg_ℤ (pos 28)
error_number errors.EROFS = neg_ℤ (pos 30)
error_number errors.ENAMETOOLONG = neg_ℤ (pos 36)
error_number errors.ENOTEMPTY = neg_ℤ (pos 39)
error_number errors.EOVERFLOW = neg_ℤ (pos 75)

-- a buffer has no room for all names: ERANGE
abbrev pub no_room : ℤ
no_room = neg_ℤ (pos 34)

-- a page of a file is lost: ENODATA
abbrev pub lost_page : ℤ
lost_page = neg_ℤ (pos 61)

-- why a device was not opened: one whose sizes are none that a device may have is EINVAL
abbrev pub open_number : OpenFault → ℤ
open_number opens.Gone = error_number errors.EIO
open_number opens.NoMemory = error_number errors.ENOMEM
open_number opens.BadGeometry = error_number errors.EINVAL

-- why a device was not mounted: no volume is ENODEV, a volume of a newer format EOPNOTSUPP, no tree that can go on EILSEQ
abbrev pub mount_number : MountFault → ℤ
mount_number mounts.Gone = error_number errors.EIO
mount_number mounts.NoMemory = error_number errors.ENOMEM
mount_number mounts.NotAVolume = neg_ℤ (pos 19)
mount_number (mounts.Newer format) = neg_ℤ (pos 95)
mount_number mounts.Damaged = neg_ℤ (pos 84)

-- why a device was not formatted
abbrev pub format_number : FormatFault → ℤ
format_number formats.Spare = error_number errors.EINVAL
format_number formats.NoMemory = error_number errors.ENOMEM
format_number formats.Worn = error_number errors.ENOSPC
format_number formats.Gone = error_number errors.EIO

-- why a salvage returned nothing
abbrev pub salvage_number : SalvageFault → ℤ
salvage_number salvages.NoMemory = error_number errors.ENOMEM
salvage_number salvages.Gone = error_number errors.EIO

-- a count as a number of 64 bits: one that has no place there is EOVERFLOW
abbrev pub signed : ℕ → ℤ
signed count = if nat_lt count (2 ^ 63) then pos count else error_number errors.EOVERFLOW

-- what a command that only succeeds or fails returns: 0, or the error
abbrev pub done_number : Reply → ℤ
done_number replies.Done = pos 0
done_number (replies.Error error) = error_number error
done_number reply = error_number errors.EIO

-- what a command that counts returns: the descriptor, the bytes written or the offset, or the error
abbrev pub count_number : Reply → ℤ
count_number (replies.Fd fd) = pos fd
count_number (replies.Wrote count) = pos count
count_number (replies.At offset) = signed offset
count_number (replies.Error error) = error_number error
count_number reply = error_number errors.EIO
