use Rattle.std.proofs.Common.{◌∙◌, refl, ap, map as list_map}
use Rattle.std.proofs.lemmas.Result.{err_from_is_err_and}
use Rattle.command_plans.proofs.Walks.{leads_back, leads_same, resolve_is, resolve_stops}
use Rattle.command_plans.proofs.path.walk.resolve.Goals as goal

pub returns-in_err-test_path-clause-leads : goal.returns-in_err-test_path-clause-leads
returns-in_err-test_path-clause-leads g c z objects has =
    let p = err_from_is_err_and c.from_residual-in_err-test_path.result c.from_residual-in_err-test_path.ensures.1 in
    leads_back g.S.ObjectStore.meaning c.args.store.now c.args.store.now _ c.from_residual-in_err-test_path.result p.0 _ p.1 p.2
    (resolve_stops objects c.args.path.now c.in_err-test_path.field-0.0 c.in_err-test_path.ensures)

pub returns-clause-leads : goal.returns-clause-leads
returns-clause-leads g c z objects has =
    let law = g.met.S.ObjectStore.lawful in
    leads_same g.S.ObjectStore.meaning law c.args.store.now c.args.store.now c.walk.new.store _ _ (law.reads_nothing c.args.store.now)
    (resolve_is objects c.args.path.now c.deref-2.result.now c.ends_in_slash.result _ (ap (list_map (λ part. part.now)) c.deref-2.ensures.value ∙ c.in_ok-parts.ensures) c.ends_in_slash.ensures c.in_ok-test_path.ensures refl)
    c.walk.result (c.walk.ensures.leads z objects has)
