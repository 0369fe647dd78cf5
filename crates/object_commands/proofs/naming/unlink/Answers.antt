use Rattle.std.specs.Prelude.{[], ◌∷◌}
use Rattle.std.proofs.lemmas.Result.{err_from_is_err_and}
use Rattle.std.specs.FinMap as map
use Rattle.posix_profile.specs.NameSteps.{name_removed}
use Rattle.posix_profile.specs.Outcomes.{answer, unless}
use Rattle.posix_profile.specs.State.{is_directory}
use Rattle.posix_profile.specs.declared.reply.Errno.TheVariants as errors
use Rattle.posix_profile.specs.declared.reply.Reply.TheVariants as replies
use Rattle.command_plans.specs.Classes.{Changing}
use Rattle.command_plans.specs.laws.Plan.{holds_on, plans_nothing, plans_of, power_of}
use Rattle.object_commands.proofs.naming.unlink.Goals as goal

pub returns-clause-power : goal.returns-clause-power
returns-clause-power g c = power_of g.S.ObjectStore.meaning c.args.store.now c.find_object.new.store c.in_ok-found.ensures.power c.unlink_object.result c.hand_on.result c.hand_on.ensures

pub returns-in_err-found-clause-plans : goal.returns-in_err-found-clause-plans
returns-in_err-found-clause-plans g c z s holds same =
    let p = err_from_is_err_and c.from_residual.result c.from_residual.ensures.1 in
    plans_nothing g.S.ObjectStore.meaning z Changing s _ _ c.args.store.now c.find_object.new.store c.from_residual.result p.0 c.in_err-found.field-0.0 p.1 p.2 (c.in_err-found.ensures.lookups z s holds)

pub returns-clause-plans : goal.returns-clause-plans
returns-clause-plans g c z s holds same =
    let m = g.S.ObjectStore.meaning in
    let here = holds_on m g.met.S.ObjectStore.lawful z s c.args.store.now c.find_object.new.store c.find_object.ensures.reads holds in
    let found = c.in_ok-found.ensures.lookups z s holds in
    plans_of m z Changing s _ _ c.args.store.now c.find_object.new.store
    (found.act (λ place o. unless s ((is_directory (map.get s.objects o), errors.EPERM) ∷ (c.args.read_only, errors.EROFS) ∷ []) (answer (name_removed c.args.moment s place) replies.Done)))
    c.unlink_object.result c.hand_on.result c.hand_on.ensures (c.unlink_object.ensures z s here same found.place found.object)
