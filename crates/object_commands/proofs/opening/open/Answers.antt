use Rattle.std.proofs.Common.{◌∙◌, ap, not, sym}
use Rattle.std.specs.Prelude.{◌&&◌, Result}
use Rattle.std.proofs.lemmas.Result.{err_from_is_err_and}
use Rattle.posix_profile.specs.HandleSteps.{open_at}
use Rattle.posix_profile.specs.Paths.{Place}
use Rattle.posix_profile.specs.declared.reply.Errno.{Errno}
use Rattle.command_plans.specs.Classes.{Changing, is_there, reports_if}
use Rattle.command_plans.specs.laws.Plan.{holds_on, plans_of, power_of, plans_is, plans_nowhere, refused, passed, passed_all, tries_kind}
use Rattle.object_commands.proofs.opening.open.Goals as goal

pub returns-clause-power : goal.returns-clause-power
returns-clause-power g c = power_of g.S.ObjectStore.meaning c.args.store.now c.find_place.new.store c.in_ok-place.ensures.power c.open_at.result c.hand_on.result c.hand_on.ensures

pub returns-then-cuts_what_is_only_read-clause-plans : goal.returns-then-cuts_what_is_only_read-clause-plans
returns-then-cuts_what_is_only_read-clause-plans g c z s holds same = refused s _ _ _ _ (sym c.cuts_what_is_only_read.ensures ∙ c.if-cuts_what_is_only_read.true)

pub returns-in_err-place-clause-plans : goal.returns-in_err-place-clause-plans
returns-in_err-place-clause-plans g c z s holds same =
    let m = g.S.ObjectStore.meaning in
    let p = err_from_is_err_and c.from_residual.result c.from_residual.ensures.1 in
    plans_is m z _ s _ _ c.args.store.now c.find_place.new.store (passed_all s _ ∙ passed s _ _ _ _ (sym c.cuts_what_is_only_read.ensures ∙ c.if-cuts_what_is_only_read.false)) c.from_residual.result
    (plans_nowhere m z _ s _ _ c.args.store.now c.find_place.new.store c.from_residual.result p.0 c.in_err-place.field-0.0 p.1 p.2 (c.in_err-place.ensures.lookups z s holds))

pub returns-clause-plans : goal.returns-clause-plans
returns-clause-plans g c z s holds same =
    let m = g.S.ObjectStore.meaning in
    let here = holds_on m g.met.S.ObjectStore.lawful z s c.args.store.now c.find_place.new.store c.find_place.ensures.reads holds in
    let at = c.in_ok-place.ensures.lookups z s holds in
    plans_of m z _ s _ _ c.args.store.now c.find_place.new.store
    (at.act (λ place. open_at z c.args.read_only c.args.moment s c.args.flags place place.object) ∙ passed_all s _ ∙ passed s _ _ _ _ (sym c.cuts_what_is_only_read.ensures ∙ c.if-cuts_what_is_only_read.false))
    c.open_at.result c.hand_on.result c.hand_on.ensures
    (tries_kind z _ _ s _ (ap (λ (r : Result Place Errno). reports_if (is_there r && not c.args.flags.trunc) Changing) (sym at.leads)) c.open_at.result (c.open_at.ensures z s here same at.place))
