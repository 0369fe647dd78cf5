use Rattle.std.proofs.Common.{◌∙◌, ap₂, sym}
use Rattle.std.specs.Prelude.{Result}
use Rattle.std.proofs.lemmas.Result.{err_from_is_err_and}
use Rattle.posix_profile.specs.Outcomes.{Outcome, at_place}
use Rattle.posix_profile.specs.Paths.{Place, resolve}
use Rattle.posix_profile.specs.declared.reply.Errno.{Errno}
use Rattle.command_plans.specs.Paths.{place_of}
use Rattle.command_plans.specs.Classes.{Changing, lead_to_one, reports_if}
use Rattle.object_commands.specs.Names.{rename_places}
use Rattle.command_plans.specs.laws.Plan.{holds_on, plans_same, plans_of, power_of, plans_nowhere, tries_kind}
use Rattle.object_commands.proofs.rename.rename.Goals as goal

pub returns-clause-power : goal.returns-clause-power
returns-clause-power g c = power_of g.S.ObjectStore.meaning c.args.store.now c.find_place-2.new.store (c.in_ok-to.ensures.power ∙ c.in_ok-from.ensures.power) c.rename_places.result c.hand_on.result c.hand_on.ensures

pub returns-in_err-to-clause-plans : goal.returns-in_err-to-clause-plans
returns-in_err-to-clause-plans g c z s holds same =
    let m = g.S.ObjectStore.meaning in
    let law = g.met.S.ObjectStore.lawful in
    let p = err_from_is_err_and c.from_residual-in_err-to.result c.from_residual-in_err-to.ensures.1 in
    let here = holds_on m law z s c.args.store.now c.find_place.new.store c.find_place.ensures.reads holds in
    let from = c.in_ok-from.ensures.lookups z s holds in
    let act : Place → Outcome = λ from. at_place s (resolve s.objects c.args.new.now) (rename_places z c.args.read_only c.args.moment s from) in
    plans_same m law z _ s _ _ c.args.store.now c.find_place.new.store c.find_place-2.new.store c.find_place.ensures.reads (from.act act) c.from_residual-in_err-to.result
    (plans_nowhere m z _ s _ (rename_places z c.args.read_only c.args.moment s (place_of c.in_ok-from.from)) c.find_place.new.store c.find_place-2.new.store c.from_residual-in_err-to.result p.0 c.in_err-to.field-0.0 p.1 p.2 (c.in_err-to.ensures.lookups z s here))

pub returns-clause-plans : goal.returns-clause-plans
returns-clause-plans g c z s holds same =
    let m = g.S.ObjectStore.meaning in
    let law = g.met.S.ObjectStore.lawful in
    let mid = holds_on m law z s c.args.store.now c.find_place.new.store c.find_place.ensures.reads holds in
    let here = holds_on m law z s c.find_place.new.store c.find_place-2.new.store c.find_place-2.ensures.reads mid in
    let from = c.in_ok-from.ensures.lookups z s holds in
    let to = c.in_ok-to.ensures.lookups z s mid in
    let act : Place → Outcome = λ from. at_place s (resolve s.objects c.args.new.now) (rename_places z c.args.read_only c.args.moment s from) in
    plans_of m z _ s _ _ c.args.store.now c.find_place-2.new.store (to.act (rename_places z c.args.read_only c.args.moment s (place_of c.in_ok-from.from)) ∙ from.act act)
    c.rename_places.result c.hand_on.result c.hand_on.ensures
    (tries_kind z _ _ s _ (ap₂ (λ (a b : Result Place Errno). reports_if (lead_to_one a b) Changing) (sym from.leads) (sym to.leads)) c.rename_places.result (c.rename_places.ensures z s here same from.place to.place))
