-- What the numbers of flags and of a seek's origin mean.
use Rattle.std.specs.Prelude.{ℕ, ◌==◌, Bool, true, false, not, bit_and, if◌then◌else◌}
use Rattle.posix_profile.specs.declared.command.Access.{Access}
use Rattle.posix_profile.specs.declared.command.Access.TheVariants as access
use Rattle.posix_profile.specs.declared.command.OpenFlags.{OpenFlags}
use Rattle.posix_profile.specs.declared.command.Whence.{Whence}
use Rattle.posix_profile.specs.declared.command.Whence.TheVariants as origins

-- whether a flag, a power of two, is in the sum
abbrev pub is_set : ℕ → ℕ → Bool
is_set flags flag = not (bit_and flags flag == 0)

-- what a file may be used for, by whether it is to be read and to be written; with neither it is read
abbrev pub access_of : Bool → Bool → Access
access_of reads false = access.Read
access_of false true = access.Write
access_of true true = access.Both

-- 1 reads, 2 writes, 4 creates, 8 with 4 only creates, 16 cuts to nothing, 32 appends
abbrev pub open_flags : ℕ → OpenFlags
open_flags flags = record {
  access = access_of (is_set flags 1) (is_set flags 2);
  create = is_set flags 4;
  excl = is_set flags 8;
  trunc = is_set flags 16;
  append = is_set flags 32;
}

-- where a seek counts from: 0 is the start, 1 the offset, any other number the end
abbrev pub whence : ℕ → Whence
whence from = if from == 0 then origins.Set else (if from == 1 then origins.Cur else origins.End)
