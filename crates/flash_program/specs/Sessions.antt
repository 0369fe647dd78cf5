-- What the program does.
use Rattle.std.specs.Prelude.{◌≡◌, ◌⊎◌, ℕ, true, false, List, Option, Result, Ok, Err}
use Rattle.formatting.specs.declared.fault.FormatFault.TheVariants as formats
use Rattle.line_shell.specs.Runs.{Shell}
use Rattle.line_shell.specs.declared.fault.ShellFault.{ShellFault}
use Rattle.mounting.specs.Faults.{WhyNotMounted}
use Rattle.mounting.specs.declared.fault.MountFault.{MountFault}
use Rattle.nand_model.specs.Calls.{Device}
use Rattle.nand_model.specs.Changes.{OnlyReads}
use Rattle.nand_model.specs.declared.nand.Nand.{Ghosts}
use Rattle.nand_model.specs.declared.trusted_nand.TrustedNand.{TrustedNand}
use Rattle.page_store.specs.PagesOf.{mounted_pages}
use Rattle.posix_calls.specs.Calls.{IsCalled}
use Rattle.posix_calls.specs.Endings.{IsUnmounted}
use Rattle.posix_calls.specs.Mounts.{IsMounted}
use Rattle.posix_calls.specs.Volumes.{over_pages}
use Rattle.posix_calls.specs.declared.volume.Volume.{Volume}
use Rattle.posix_profile.specs.declared.command.Stamped.{Stamped}
use Rattle.posix_profile.specs.declared.reply.Reply.{Reply}
use Rattle.posix_profile.specs.declared.reply.Reply.TheVariants as replies
use Rattle.posix_profile.specs.laws.Fresh.{fresh}
use Rattle.powercut.specs.Living.{IsSoundOn}
use Rattle.flash_program.specs.declared.fault.ProgramFault.{ProgramFault}
use Rattle.flash_program.specs.declared.fault.ProgramFault.TheVariants as faults

-- A stream before and after: the bytes that are left to be read of an input, those that were written to an output; none where the
-- stream does not report them.
pub record Stream : Type 0 where
  pub before : Option (List ℕ)
  pub after : Option (List ℕ)

-- the bytes of a stream before and after
abbrev pub stream : {S : Type 0} → (S → Option (List ℕ)) → (old new : S) → Stream
stream bytes old new = record { before = bytes old; after = bytes new }

-- nothing of the stream was read or written
abbrev pub IsUntouched : Stream → Type 0
IsUntouched s = s.after ≡ s.before

-- the volume is called
abbrev pub Serves : {N : Type 0} {trusted : Ghosts (TrustedNand N)} → Volume N trusted → Stamped → Reply → Volume N trusted → Type 0
Serves old command reply new = IsCalled mounted_pages (over_pages old) command reply (over_pages new)

-- what is reported of a session, from how its shell ended and from the answer to its unmount: the shell's fault goes first
abbrev pub reported : Result (Unit {0}) ShellFault → Reply → Result (Unit {0}) ProgramFault
reported (Err fault) reply = Err (faults.Shell fault)
reported (Ok done) replies.Done = Ok done
reported (Ok done) reply = Err faults.Unmount

-- The volume of a device was mounted, lines were answered by it, and it was unmounted.
pub record Session {N : Type 0} (trusted : Ghosts (TrustedNand N)) (before : Device) (input output : Stream) (after : Device) (result : Result (Unit {0}) ProgramFault) : Type 0 where
  pub first : Volume N trusted
  pub last : Volume N trusted
  pub shell : Result (Unit {0}) ShellFault
  pub reply : Reply
  pub mounted : IsMounted mounted_pages before (over_pages first)
  pub answered : Shell Serves input.before input.after output.before output.after first last shell
  pub unmounted : IsUnmounted mounted_pages (over_pages last) after reply
  pub result_is : result ≡ reported shell reply

-- The volume of a device was not mounted: the device was only read, and nothing was written.
pub record NotMounted (before : Device) (output : Stream) (after : Device) (result : Result (Unit {0}) ProgramFault) : Type 0 where
  pub fault : MountFault
  pub result_is : result ≡ Err (faults.Mount fault)
  pub reads : OnlyReads before after
  pub why : WhyNotMounted after fault
  pub unwritten : IsUntouched output

-- how the lines over a device end; where it is not mounted no line is read
abbrev pub LinesEnd : {N : Type 0} → Ghosts (TrustedNand N) → Device → (input output : Stream) → Device → Result (Unit {0}) ProgramFault → Type 0
LinesEnd trusted before input output after result = (NotMounted before output after result × IsUntouched input) ⊎ Session trusted before input output after result

-- a fault of the steps before the mount, over a new device in memory: its blocks are enough, and it has power
abbrev pub IsEarly : ProgramFault → Type 0
IsEarly faults.NoMemory = Unit {0}
IsEarly (faults.Format formats.NoMemory) = Unit {0}
IsEarly (faults.Format formats.Worn) = Unit {0}
IsEarly fault = ⊥

-- The device has eight blocks of 32 pages of 512 bytes, is honest, and has a new volume, whose root is empty, with one spare
-- block, on a true flash.
pub record IsFresh (device : Device) : Type 0 where
  pub bytes_are : device.geometry.bytes ≡ 512
  pub pages_are : device.geometry.pages ≡ 32
  pub blocks_are : device.geometry.blocks ≡ 8
  pub honest : device.honest ≡ true
  pub has_power : device.gone ≡ false
  pub sound : IsSoundOn 1 fresh.objects device

-- how the program ends: where no device was made no line is read and nothing is written, else as the lines over a fresh
-- device do
abbrev pub ProgramEnds : {N : Type 0} → Ghosts (TrustedNand N) → (input output : Stream) → Result (Unit {0}) ProgramFault → Type 0
ProgramEnds trusted input output result =
    ((fault : ProgramFault) × (result ≡ Err fault) × IsEarly fault × IsUntouched input × IsUntouched output)
    ⊎ ((before : Device) × (after : Device) × IsFresh before × LinesEnd trusted before input output after result)
