use Rattle.std.proofs.Common.{◌∙◌, sym}
use Rattle.std.proofs.lemmas.Result.{err_from_is_err_and}
use Rattle.std.specs.FinMap as map
use Rattle.posix_profile.specs.laws.Name.{directory_or}
use Rattle.posix_profile.specs.NameSteps.{list_of}
use Rattle.command_plans.specs.Classes.{Reporting}
use Rattle.command_plans.specs.laws.Plan.{holds_on, plans_nothing, plans_fault, plan_reported, list_file, list_reported}
use Rattle.object_commands.proofs.reporting.list.Goals as goal

pub returns-in_err-found-clause-plans : goal.returns-in_err-found-clause-plans
returns-in_err-found-clause-plans g c z s holds =
    let p = err_from_is_err_and c.from_residual.result c.from_residual.ensures.1 in
    plans_nothing g.S.ObjectStore.meaning z Reporting s _ (λ place o. list_of s (map.get s.objects o)) c.args.store.now c.find_object.new.store
    c.from_residual.result p.0 c.in_err-found.field-0.0 p.1 p.2 (c.in_err-found.ensures.lookups z s holds)

pub returns-then-is_file-clause-plans : goal.returns-then-is_file-clause-plans
returns-then-is_file-clause-plans g c z s holds =
    let here = holds_on g.S.ObjectStore.meaning g.met.S.ObjectStore.lawful z s c.args.store.now c.find_object.new.store c.find_object.ensures.reads holds in
    let found = c.in_ok-found.ensures.lookups z s holds in
    list_file s _ found.there.0 found.there.1 (sym (c.is_file.ensures z s.objects here.has) ∙ c.if-is_file.true) ∙ found.act (λ place o. list_of s (map.get s.objects o))

pub returns-in_err-names-clause-plans : goal.returns-in_err-names-clause-plans
returns-in_err-names-clause-plans g c z s holds =
    let law = g.met.S.ObjectStore.lawful in
    let m = g.S.ObjectStore.meaning in
    let p = err_from_is_err_and c.from_residual-in_err-names.result c.from_residual-in_err-names.ensures.1 in
    let here = holds_on m law z s c.args.store.now c.find_object.new.store c.find_object.ensures.reads holds in
    let found = c.in_ok-found.ensures.lookups z s holds in
    let dir = directory_or s.objects c.in_ok-found.found.number found.there.0 found.there.1 (sym (c.is_file.ensures z s.objects here.has) ∙ c.if-is_file.false) in
    plans_fault m law z Reporting s _ c.args.store.now c.find_object.new.store c.names.new.self c.from_residual-in_err-names.result p.0 c.in_err-names.field-0.0 p.1 p.2 c.find_object.ensures.reads
    (c.in_err-names.ensures.lookups z s.objects here.has dir)

pub returns-clause-plans : goal.returns-clause-plans
returns-clause-plans g c z s holds =
    let here = holds_on g.S.ObjectStore.meaning g.met.S.ObjectStore.lawful z s c.args.store.now c.find_object.new.store c.find_object.ensures.reads holds in
    let found = c.in_ok-found.ensures.lookups z s holds in
    let no' = sym (c.is_file.ensures z s.objects here.has) ∙ c.if-is_file.false in
    let dir = directory_or s.objects c.in_ok-found.found.number found.there.0 found.there.1 no' in
    plan_reported z Reporting s _ _ _ c.tell.ensures tt (list_reported s _ found.there.0 _ found.there.1 no' (c.in_ok-names.ensures.lookups z s.objects here.has dir) ∙ found.act (λ place o. list_of s (map.get s.objects o)))
