use Rattle.std.proofs.Common.{◌≡◌, Some, get_or, slice_get, arith}
use Rattle.std.proofs.lemmas.List.{length-map}
use Rattle.std.proofs.lemmas.Option.{slice_get-get_or}
use Rattle.volume_terms.specs.laws.List.{mapped_at}
use Rattle.salvage.specs.Reaching.{objects_in}
use Rattle.salvage.specs.declared.reported.SalvagedName.{SalvagedName}
use Rattle.salvage.proofs.Sets.{among_none, among_more, among_all}
use Rattle.salvage.proofs.orphans.add_all.Goals as goal

pub loop-place-init : goal.loop-place-init
loop-place-init c = among_none (objects_in c.args.names.now) c.args.named.now

pub loop-place-preserved : goal.loop-place-preserved
loop-place-preserved c =
    let names = c.args.names.now in
    let name : SalvagedName = get_or names c.loop-place.place c.index-names-place.result in
    let at : slice_get names c.loop-place.place ≡ Some name = slice_get-get_or names c.loop-place.place c.index-names-place.result c.loop-place-test.true in
    among_more (objects_in names) c.loop-place.place name.object c.args.named.now c.loop-place.named c.insert.new.self c.loop-place.invariant
    (mapped_at (λ (n : SalvagedName). n.object) names c.loop-place.place name at) c.in_ok-insert.ensures.updates

pub returns-clause-adds : goal.returns-clause-adds
returns-clause-adds c =
    among_all (objects_in c.args.names.now) c.loop-place.place c.args.named.now c.loop-place.named c.loop-place.invariant
    (omega (arith, c.loop-place-test.false, length-map c.args.names.now (λ (n : SalvagedName). n.object)))
