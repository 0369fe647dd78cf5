use Rattle.posix_profile.specs.NameSteps.{mkdir_at}
use Rattle.command_plans.specs.Classes.{Changing}
use Rattle.command_plans.specs.laws.Plan.{holds_on, plans_of, power_of}
use Rattle.object_commands.proofs.naming.mkdir.Goals as goal

pub returns-clause-power : goal.returns-clause-power
returns-clause-power g c = power_of g.S.ObjectStore.meaning c.args.store.now c.find_place.new.store c.in_ok-place.ensures.power c.mkdir_at.result c.hand_on.result c.hand_on.ensures

pub returns-clause-plans : goal.returns-clause-plans
returns-clause-plans g c z s holds =
    let m = g.S.ObjectStore.meaning in
    let here = holds_on m g.met.S.ObjectStore.lawful z s c.args.store.now c.find_place.new.store c.find_place.ensures.reads holds in
    let at = c.in_ok-place.ensures.lookups z s holds in
    plans_of m z Changing s _ _ c.args.store.now c.find_place.new.store (at.act (λ place. mkdir_at z c.args.read_only c.args.moment s place place.object))
    c.mkdir_at.result c.hand_on.result c.hand_on.ensures (c.mkdir_at.ensures z s here at.place)
