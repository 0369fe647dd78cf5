use Rattle.std.proofs.Common.{◌∙◌, sym}
use Rattle.std.proofs.lemmas.Result.{err_from_is_err_and}
use Rattle.std.specs.Prelude.{ℕ, [], ◌∷◌}
use Rattle.std.specs.FinMap as map
use Rattle.posix_profile.specs.laws.Name.{file_or}
use Rattle.posix_profile.specs.NameSteps.{link_at}
use Rattle.posix_profile.specs.Outcomes.{Outcome, unless, at_place}
use Rattle.posix_profile.specs.Paths.{Place, resolve}
use Rattle.posix_profile.specs.State.{is_directory}
use Rattle.posix_profile.specs.declared.reply.Errno.TheVariants as errors
use Rattle.command_plans.specs.Classes.{Changing}
use Rattle.command_plans.specs.laws.Plan.{holds_on, plans_same, plans_nothing, refused, passed, passed_all}
use Rattle.object_commands.proofs.naming.link.Goals as goal

pub returns-in_err-found-clause-plans : goal.returns-in_err-found-clause-plans
returns-in_err-found-clause-plans g c z s holds =
    let p = err_from_is_err_and c.from_residual.result c.from_residual.ensures.1 in
    plans_nothing g.S.ObjectStore.meaning z Changing s _ _ c.args.store.now c.find_object.new.store c.from_residual.result p.0 c.in_err-found.field-0.0 p.1 p.2 (c.in_err-found.ensures.lookups z s holds)

pub returns-then-is_directory-clause-plans : goal.returns-then-is_directory-clause-plans
returns-then-is_directory-clause-plans g c z s holds =
    let here = holds_on g.S.ObjectStore.meaning g.met.S.ObjectStore.lawful z s c.args.store.now c.find_object.new.store c.find_object.ensures.reads holds in
    let found = c.in_ok-found.ensures.lookups z s holds in
    let act : Place → ℕ → Outcome = λ from o. unless s ((is_directory (map.get s.objects o), errors.EPERM) ∷ []) (at_place s (resolve s.objects c.args.new.now) (λ to. link_at z c.args.read_only c.args.moment s o to to.object)) in
    refused s _ _ _ _ (sym (c.is_directory.ensures z s.objects here.has) ∙ c.if-is_directory.true) ∙ found.act act

pub returns-clause-plans : goal.returns-clause-plans
returns-clause-plans g c z s holds =
    let m = g.S.ObjectStore.meaning in
    let law = g.met.S.ObjectStore.lawful in
    let here = holds_on m law z s c.args.store.now c.find_object.new.store c.find_object.ensures.reads holds in
    let found = c.in_ok-found.ensures.lookups z s holds in
    let no' = sym (c.is_directory.ensures z s.objects here.has) ∙ c.if-is_directory.false in
    let act : Place → ℕ → Outcome = λ from o. unless s ((is_directory (map.get s.objects o), errors.EPERM) ∷ []) (at_place s (resolve s.objects c.args.new.now) (λ to. link_at z c.args.read_only c.args.moment s o to to.object)) in
    plans_same m law z Changing s _ _ c.args.store.now c.find_object.new.store c.link_to.new.store c.find_object.ensures.reads (passed_all s _ ∙ passed s _ _ _ _ no' ∙ found.act act)
    c.link_to.result (c.link_to.ensures.plans z s here (file_or s.objects c.in_ok-found.found.number found.there.0 found.there.1 no'))
