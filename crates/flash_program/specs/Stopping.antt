-- What stops a session of the program.
use Rattle.std.specs.Prelude.{◌≡◌, ℕ, true, false, Result}
use Rattle.nand_model.specs.Calls.{Device}
use Rattle.nand_model.specs.declared.nand.Nand.{Ghosts}
use Rattle.nand_model.specs.declared.trusted_nand.TrustedNand.{TrustedNand}
use Rattle.posix_calls.specs.PageVolumes.{is_stopped}
use Rattle.posix_calls.specs.Volumes.{over_pages}
use Rattle.posix_profile.specs.State.{Objects}
use Rattle.posix_profile.specs.declared.reply.Reply.TheVariants as replies
use Rattle.powercut.specs.Limits.{StaysWithin}
use Rattle.powercut.specs.Living.{IsSoundOn}
use Rattle.flash_program.specs.Sessions.{Session, Stream}
use Rattle.flash_program.specs.declared.fault.ProgramFault.{ProgramFault}

-- Of a session over an honest device with a sound and true flash, whose spare blocks and numbers suffice: where the device has power at the
-- end no command was answered EIO, for the volume is not stopped, and the unmount was done.
abbrev pub OnlyACutStops : {N : Type 0} → Ghosts (TrustedNand N) → Type 0
OnlyACutStops trusted =
    (before after : Device) (input output : Stream) (result : Result (Unit {0}) ProgramFault)
    → (session : Session trusted before input output after result)
    → (spare : ℕ) (tree : Objects) → before.honest ≡ true → IsSoundOn spare tree before → StaysWithin spare before after
    → after.gone ≡ false → (is_stopped (over_pages session.last) ≡ false) × (session.reply ≡ replies.Done)
