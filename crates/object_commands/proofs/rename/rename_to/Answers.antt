use Rattle.std.proofs.Common.{◌∙◌, ap, sym}
use Rattle.std.specs.Prelude.{Bool, []}
use Rattle.posix_profile.specs.NameSteps.{is_object}
use Rattle.posix_profile.specs.Outcomes.{answer}
use Rattle.posix_profile.specs.declared.reply.Errno.TheVariants as errors
use Rattle.posix_profile.specs.declared.reply.Reply.TheVariants as replies
use Rattle.command_plans.specs.Paths.{place_of}
use Rattle.command_plans.specs.Classes.{Changing, reports_if}
use Rattle.object_commands.specs.Names.{rename_onto}
use Rattle.command_plans.specs.laws.Plan.{nothing_suits, plan_reported, tries_kind, tries_same, refused, passed, passed_all, then_is, else_is}
use Rattle.object_commands.proofs.rename.rename_to.Goals as goal

pub returns-then-is_same : goal.returns-then-is_same
returns-then-is_same g c z s holds same from number to =
    plan_reported z _ s _ _ _ c.tell.ensures (nothing_suits (is_object c.args.number (place_of c.args.to).object) replies.Done) (then_is _ (answer s replies.Done) _ (sym c.is_same.ensures ∙ c.if-is_same.true))

pub returns-then-goes_below : goal.returns-then-goes_below
returns-then-goes_below g c z s holds same from number to =
    let onto = rename_onto z c.args.read_only c.args.moment s (place_of c.args.from) (place_of c.args.to) c.args.number in
    refused s _ errors.EINVAL [] onto (sym (c.goes_below.ensures z s.objects holds.has to.place.directory to.place.reached) ∙ c.if-goes_below.true) ∙ else_is _ (answer s replies.Done) _ (sym c.is_same.ensures ∙ c.if-is_same.false)

pub returns : goal.returns
returns g c z s holds same from number to =
    let onto = rename_onto z c.args.read_only c.args.moment s (place_of c.args.from) (place_of c.args.to) c.args.number in
    let other = sym c.is_same.ensures ∙ c.if-is_same.false in
    tries_kind z _ _ s _ (ap (λ (b : Bool). reports_if b Changing) (sym other)) c.rename_onto.result
    (tries_same z Changing s onto _
    (passed_all s onto ∙ passed s _ errors.EINVAL [] onto (sym (c.goes_below.ensures z s.objects holds.has to.place.directory to.place.reached) ∙ c.if-goes_below.false) ∙ else_is _ (answer s replies.Done) _ other)
    c.rename_onto.result (c.rename_onto.ensures z s holds same from number to other))
