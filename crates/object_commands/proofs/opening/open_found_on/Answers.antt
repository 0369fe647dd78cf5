use Rattle.std.proofs.Common.{◌∙◌, sym, ap}
use Rattle.posix_profile.specs.HandleSteps.{open_on}
use Rattle.posix_profile.specs.Outcomes.{answer}
use Rattle.posix_profile.specs.State.{Objects}
use Rattle.posix_profile.specs.declared.reply.Reply.TheVariants as replies
use Rattle.object_commands.specs.Opens.{cut_by, opened}
use Rattle.object_commands.proofs.Making.{opened_plan, cut_made, cut_can, cut_suits, cut_fits}
use Rattle.command_plans.specs.laws.Plan.{change_fits, refused, passed, passed_all}
use Rattle.object_commands.proofs.opening.open_found_on.Goals as goal

pub returns-then-is_write_refused : goal.returns-then-is_write_refused
returns-then-is_write_refused c z s sound small file = refused s _ _ _ _ (sym c.is_write_refused.ensures ∙ c.if-is_write_refused.true)

pub returns : goal.returns
returns c z s sound small file =
    let cut = cut_by c.args.flags.trunc c.args.number c.args.moment in
    opened_plan z _ s c.args.fd c.args.number c.args.flags cut _ _ (c.open_on.ensures ∙ ap (opened c.args.fd c.args.number c.args.flags) c.cut.ensures) small
    (cut_can z s.objects c.args.number c.args.moment c.args.flags.trunc sound.fit file) (cut_suits c.args.fd c.args.number c.args.moment c.args.flags.trunc)
    (ap (λ (o : Objects). answer (open_on o s c.args.fd c.args.number c.args.flags) (replies.Fd c.args.fd)) (cut_made s.objects c.args.number c.args.moment c.args.flags.trunc)
    ∙ change_fits z s _ _ (cut_fits z s.objects c.args.number c.args.moment c.args.flags.trunc sound.fit file) ∙ passed_all s _ ∙ passed s _ _ _ _ (sym c.is_write_refused.ensures ∙ c.if-is_write_refused.false))
