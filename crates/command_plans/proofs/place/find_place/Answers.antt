use Rattle.std.proofs.Common.{◌<◌, rules}
use Rattle.std.proofs.lemmas.List.Elements.{All-from_get_or}
use Rattle.command_plans.specs.laws.Plan.{finds_place}
use Rattle.command_plans.proofs.place.find_place.Goals as goal

pub returns-clause-lookups : goal.returns-clause-lookups
returns-clause-lookups g c z s holds =
    finds_place g.S.ObjectStore.meaning z s c.args.path.now c.args.store.now c.resolve.new.store holds.has.forest
    (All-from_get_or (λ b. b < 256) c.args.path.now 0 (λ i lt. search (rules, c.type_inv.path i)))
    c.resolve.result (c.resolve.ensures.leads z s.objects holds.has)
