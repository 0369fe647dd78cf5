use Rattle.command_plans.specs.Classes.{Changing}
use Rattle.object_commands.specs.Names.{rmdir_at}
use Rattle.command_plans.specs.laws.Plan.{holds_on, plans_of, power_of}
use Rattle.object_commands.proofs.naming.rmdir.Goals as goal

pub returns-clause-power : goal.returns-clause-power
returns-clause-power g c = power_of g.S.ObjectStore.meaning c.args.store.now c.find_place.new.store c.in_ok-place.ensures.power c.rmdir_at.result c.hand_on.result c.hand_on.ensures

pub returns-clause-plans : goal.returns-clause-plans
returns-clause-plans g c z s holds same =
    let m = g.S.ObjectStore.meaning in
    let here = holds_on m g.met.S.ObjectStore.lawful z s c.args.store.now c.find_place.new.store c.find_place.ensures.reads holds in
    let at = c.in_ok-place.ensures.lookups z s holds in
    plans_of m z Changing s _ _ c.args.store.now c.find_place.new.store (at.act (rmdir_at c.args.read_only c.args.moment s))
    c.rmdir_at.result c.hand_on.result c.hand_on.ensures (c.rmdir_at.ensures z s here same at.place)
