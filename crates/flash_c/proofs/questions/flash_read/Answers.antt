use Rattle.std.proofs.Common.{◌∙◌, ℤ, sym, ap, refl, inr, to_z, of_z, w32, w64}
use Rattle.std.proofs.lemmas.Int.{to_z-of_z}
use Rattle.posix_profile.specs.declared.reply.Errno.TheVariants as errors
use Rattle.posix_profile.specs.declared.reply.Reply.TheVariants as replies
use Rattle.flash_c.specs.Slots.{empty}
use Rattle.flash_c.proofs.Replies.{served_in_place}
use Rattle.flash_c.proofs.questions.flash_read.Goals as goal

pub returns-then-not-is_full : goal.returns-then-not-is_full
returns-then-not-is_full c = (replies.Error errors.EINVAL, empty (sym c.is_full.ensures.full ∙ c.if-not-is_full.true) c.is_full.ensures.same, ap (λ (n : ℤ). to_z w64 (of_z w64 n)) (c.from.ensures ∙ ap (λ (n : ℤ). to_z w32 (of_z w32 n)) c.error_number.ensures.number), (refl, inr (inr refl)))

pub returns : goal.returns
returns c =
    let m = c.read.ensures in (
      m.0,
      served_in_place _ c.args.slot.now c.is_full.new.self c.session.result.now c.read.new.session _ _ m.0
          (sym c.is_full.ensures.full ∙ c.if-not-is_full.false) c.is_full.ensures.same c.session.ensures.session refl m.1,
      to_z-of_z w64 c.read.result (search (c.read.type_inv)) ∙ m.2,
      m.3,
    )
