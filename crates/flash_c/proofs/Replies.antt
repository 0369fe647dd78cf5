-- What a slot replied.
use Rattle.std.proofs.Common.{◌≡◌, true, ap, subst, ◌∙◌}
use Rattle.posix_profile.specs.declared.command.Stamped.{Stamped}
use Rattle.posix_profile.specs.declared.reply.Reply.{Reply}
use Rattle.flash_c.specs.Lending.{with_session}
use Rattle.flash_c.specs.Slots.{Replied, served}
use Rattle.flash_c.specs.declared.session.Session.{Session}
use Rattle.flash_c.specs.declared.slot.Slot.{Slot}

-- the session of a full slot was lent, and served the command
pub served_in_place : (serves : Session → Stamped → Reply → Session → Type 0) (old seen : Slot) (lent left : Session) (issued command : Stamped) (reply : Reply)
    → old.full ≡ true → seen ≡ old → lent ≡ seen.session → issued ≡ command → serves lent issued reply left → Replied serves old command reply (with_session seen left)
served_in_place serves old seen lent left issued command reply full same lends is does =
    let first : lent ≡ old.session = lends ∙ ap (λ (s : Slot). s.session) same in
    served full (ap (λ (s : Slot). s.full) same ∙ full) (subst (λ (s : Session). serves s command reply left) first (subst (λ (k : Stamped). serves lent k reply left) is does))
