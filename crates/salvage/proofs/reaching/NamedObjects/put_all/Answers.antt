use Rattle.std.proofs.Common.{◌≡◌, ◌<◌, ◌+◌, ◌∙◌, ◌∷◌, List, ℕ, drop, length, length-drop, get_or, ap, subst, arith}
use Rattle.std.proofs.lemmas.List.{drop_more, get_or-map, length-map, nil_from_length}
use Rattle.salvage.specs.Reaching.{objects_in}
use Rattle.salvage.specs.declared.reported.SalvagedName.{SalvagedName}
use Rattle.salvage.proofs.Going.{IsPutting, put_none, put_next, put_all}
use Rattle.salvage.proofs.reaching.NamedObjects.put_all.Goals as goal

pub put-requires : goal.put-requires
put-requires c = c.loop-place.invariant.knows

pub loop-place-init : goal.loop-place-init
loop-place-init c = put_none c.args.self.now (objects_in c.args.names.now) c.requires

pub loop-place-preserved : goal.loop-place-preserved
loop-place-preserved c =
    let names = c.args.names.now in
    let objects : List ℕ = objects_in names in
    let n : ℕ = c.loop-place.place in
    let name : SalvagedName = get_or names n c.index-names-place.result in
    let less : n < length objects = omega (arith, c.loop-place-test.true, length-map names (λ (n : SalvagedName). n.object)) in
    let rest : drop n objects ≡ name.object ∷ drop (n + 1) objects =
    drop_more objects n 0 less
    ∙ ap (λ (k : ℕ). k ∷ drop (n + 1) objects) (get_or-map (λ (n : SalvagedName). n.object) names n c.index-names-place.result 0 c.loop-place-test.true) in
    put_next c.args.self.now objects c.loop-place.self name.object (drop (n + 1) objects) c.put.new.self
    (subst (IsPutting c.args.self.now objects c.loop-place.self) rest c.loop-place.invariant) c.in_ok-put.ensures.puts

pub returns-clause-puts : goal.returns-clause-puts
returns-clause-puts c =
    let objects : List ℕ = objects_in c.args.names.now in
    put_all c.args.self.now objects c.loop-place.self (drop c.loop-place.place objects)
    (nil_from_length (drop c.loop-place.place objects) (length-drop c.loop-place.place objects ∙ omega (arith, c.loop-place-test.false, length-map c.args.names.now (λ (n : SalvagedName). n.object)))) c.loop-place.invariant
