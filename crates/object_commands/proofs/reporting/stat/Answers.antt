use Rattle.std.proofs.Common.{◌∙◌}
use Rattle.std.proofs.lemmas.Result.{err_from_is_err_and}
use Rattle.std.specs.FinMap as map
use Rattle.posix_profile.specs.NameSteps.{stat_of}
use Rattle.command_plans.specs.Classes.{Reporting}
use Rattle.command_plans.specs.laws.Fact.{none_info}
use Rattle.command_plans.specs.laws.Plan.{holds_on, plans_nothing, plan_reported, stat_reported, stat_none}
use Rattle.object_commands.proofs.reporting.stat.Goals as goal

pub returns-in_err-found-clause-plans : goal.returns-in_err-found-clause-plans
returns-in_err-found-clause-plans g c z s holds =
    let p = err_from_is_err_and c.from_residual.result c.from_residual.ensures.1 in
    plans_nothing g.S.ObjectStore.meaning z Reporting s _ (λ place o. stat_of s o (map.get s.objects o)) c.args.store.now c.find_object.new.store
    c.from_residual.result p.0 c.in_err-found.field-0.0 p.1 p.2 (c.in_err-found.ensures.lookups z s holds)

pub returns-in-Some-clause-plans : goal.returns-in-Some-clause-plans
returns-in-Some-clause-plans g c z s holds =
    let here = holds_on g.S.ObjectStore.meaning g.met.S.ObjectStore.lawful z s c.args.store.now c.find_object.new.store c.find_object.ensures.reads holds in
    let found = c.in_ok-found.ensures.lookups z s holds in
    plan_reported z Reporting s _ _ _ c.tell.ensures tt (stat_reported s c.in_ok-found.found.number c.in-Some.info _ (c.in-Some.ensures z s.objects here.has) ∙ found.act (λ place o. stat_of s o (map.get s.objects o)))

pub returns-in-None-clause-plans : goal.returns-in-None-clause-plans
returns-in-None-clause-plans g c z s holds =
    let here = holds_on g.S.ObjectStore.meaning g.met.S.ObjectStore.lawful z s c.args.store.now c.find_object.new.store c.find_object.ensures.reads holds in
    let found = c.in_ok-found.ensures.lookups z s holds in
    stat_none s c.in_ok-found.found.number _ (none_info s.objects c.in_ok-found.found.number _ (c.in-None.ensures z s.objects here.has)) ∙ found.act (λ place o. stat_of s o (map.get s.objects o))
