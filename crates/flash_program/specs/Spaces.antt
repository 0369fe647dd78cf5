-- The space of a volume, as it is reported.
use Rattle.std.specs.Prelude.{◌≡◌, ◌⊎◌, ◌↔◌, ◌<◌, ◌≤◌, ℕ, ◌+◌, ◌-◌, Bool, true, false, List, [], ◌∷◌, ◌++◌, Option, Result, Ok, Err, codes, if◌then◌else◌}
use Rattle.std.specs.Io.KnownBytes.{Appends}
use Rattle.flash_tree.specs.Mount.{bad_blocks}
use Rattle.formatting.specs.declared.fault.FormatFault.{FormatFault}
use Rattle.formatting.specs.declared.fault.FormatFault.TheVariants as formats
use Rattle.line_shell.specs.Replies.{newline, reply_text}
use Rattle.line_shell.specs.Written.{AppendsPart}
use Rattle.nand_model.specs.Calls.{Device, Lasts}
use Rattle.nand_model.specs.Changes.{OnlyReads}
use Rattle.posix_calls.specs.PageVolumes.{is_read_only}
use Rattle.nand_model.specs.declared.nand.Nand.{Ghosts}
use Rattle.nand_model.specs.declared.trusted_nand.TrustedNand.{TrustedNand}
use Rattle.page_store.specs.PagesOf.{mounted_pages}
use Rattle.posix_calls.specs.Endings.{IsUnmounted}
use Rattle.posix_profile.specs.declared.command.Command.TheVariants as commands
use Rattle.posix_profile.specs.declared.command.Stamped.{Stamped}
use Rattle.posix_profile.specs.declared.reply.Reply.{Reply}
use Rattle.posix_profile.specs.declared.reply.Reply.TheVariants as replies
use Rattle.posix_profile.specs.laws.Fresh.{fresh}
use Rattle.posix_calls.specs.Mounts.{IsMounted, IsMountedByScan}
use Rattle.posix_calls.specs.Volumes.{over_pages}
use Rattle.posix_calls.specs.declared.volume.Volume.{Volume}
use Rattle.powercut.specs.Living.{IsSoundOn}
use Rattle.flash_program.specs.Sessions.{NotMounted, IsUntouched, Serves, Stream}
use Rattle.flash_program.specs.declared.fault.ProgramFault.{ProgramFault}
use Rattle.flash_program.specs.declared.fault.ProgramFault.TheVariants as faults

-- the command that asks for the space
abbrev pub space_asked : Stamped
space_asked = record { moment = 0; command = commands.Space }

-- the text of the reply, and `read-only` on a line of its own where the volume is so
abbrev pub space_text : Reply → Bool → List ℕ
space_text reply read_only = reply_text reply ++ (if read_only then codes "read-only" ++ (newline ∷ []) else [])

-- the text is out, unless standard output failed
abbrev pub IsStated : Stream → List ℕ → Result (Unit {0}) ProgramFault → Type 0
IsStated output text (Ok done) = Appends output.before output.after text
IsStated output text (Err faults.Write) = AppendsPart output.before output.after text
IsStated output text (Err fault) = ⊥

-- A volume was mounted by all tags, called for its space, and left as it was: its device was only read.
pub record Checked {N : Type 0} (trusted : Ghosts (TrustedNand N)) (before : Device) (output : Stream) (after : Device) (result : Result (Unit {0}) ProgramFault) : Type 0 where
  pub first : Volume N trusted
  pub last : Volume N trusted
  pub reply : Reply
  pub mounted : IsMountedByScan mounted_pages before (over_pages first)
  pub issued : Serves first space_asked reply last
  pub reported : IsStated output (space_text reply (is_read_only (over_pages last))) result
  pub reads : OnlyReads before after

-- how the check of a device ends
abbrev pub CheckEnds : {N : Type 0} → Ghosts (TrustedNand N) → Device → Stream → Device → Result (Unit {0}) ProgramFault → Type 0
CheckEnds trusted before output after result = NotMounted before output after result ⊎ Checked trusted before output after result

-- what is reported of a new volume, from how its space was reported and from the answer to its unmount: the output's fault goes first
abbrev pub shown : Result (Unit {0}) ProgramFault → Reply → Result (Unit {0}) ProgramFault
shown (Err fault) reply = Err fault
shown (Ok done) replies.Done = Ok done
shown (Ok done) reply = Err faults.Unmount

-- A volume was mounted, called for its space, and unmounted.
pub record Shown {N : Type 0} (trusted : Ghosts (TrustedNand N)) (before : Device) (output : Stream) (after : Device) (result : Result (Unit {0}) ProgramFault) : Type 0 where
  pub first : Volume N trusted
  pub last : Volume N trusted
  pub reply : Reply
  pub spoken : Result (Unit {0}) ProgramFault
  pub answer : Reply
  pub mounted : IsMounted mounted_pages before (over_pages first)
  pub issued : Serves first space_asked reply last
  pub reported : IsStated output (reply_text reply) spoken
  pub unmounted : IsUnmounted mounted_pages (over_pages last) after answer
  pub result_is : result ≡ shown spoken answer

-- how the showing of a device ends
abbrev pub ShowEnds : {N : Type 0} → Ghosts (TrustedNand N) → Device → Stream → Device → Result (Unit {0}) ProgramFault → Type 0
ShowEnds trusted before output after result = NotMounted before output after result ⊎ Shown trusted before output after result

-- the device is as calls of it left it, and no more blocks of it became bad than calls failed
pub record KeepsMarks (before after : Device) : Type 0 where
  pub lasts : Lasts before after
  pub marks : bad_blocks before.geometry after.flash ≤ bad_blocks before.geometry before.flash + (after.failures - before.failures)

-- the device of an honest one has a new volume, whose root is empty, with so many spare blocks, on a true flash
pub record IsFormatted (spare : ℕ) (before after : Device) : Type 0 where
  pub keeps : KeepsMarks before after
  pub honest : after.honest ≡ before.honest
  pub has_power : after.gone ≡ false
  pub sound : before.honest ≡ true → IsSoundOn spare fresh.objects after

-- A device was not formatted, and nothing is written: for its spare blocks exactly where there are too few others; as worn only
-- where more of its blocks are bad by then than are spare; as gone only where it is.
pub record NotFormatted (spare : ℕ) (before : Device) (output : Stream) (after : Device) (result : Result (Unit {0}) ProgramFault) : Type 0 where
  pub fault : FormatFault
  pub result_is : result ≡ Err (faults.Format fault)
  pub keeps : KeepsMarks before after
  pub too_few_blocks : (fault ≡ formats.Spare) ↔ (before.geometry.blocks < spare + 4)
  pub worn : fault ≡ formats.Worn → spare < bad_blocks after.geometry after.flash
  pub gone : fault ≡ formats.Gone → after.gone ≡ true
  pub unwritten : IsUntouched output

-- how the formatting of a device ends
abbrev pub FormatEnds : {N : Type 0} → Ghosts (TrustedNand N) → (spare : ℕ) → Device → Stream → Device → Result (Unit {0}) ProgramFault → Type 0
FormatEnds trusted spare before output after result =
    NotFormatted spare before output after result ⊎ ((formatted : Device) × IsFormatted spare before formatted × ShowEnds trusted formatted output after result)
