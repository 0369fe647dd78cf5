use Rattle.std.proofs.Common.{◌≡◌, ◌+◌, ◌∙◌, ◌∷◌, List, ℕ, suc, drop, length-drop, slice_index, ap, subst, arith}
use Rattle.std.proofs.Math.Seq.{drop-cons}
use Rattle.std.proofs.lemmas.List.{nil_from_length}
use Rattle.tree_walk.proofs.Putting.{IsPutting, put_none, put_next, put_all}
use Rattle.tree_walk.proofs.walking.WalkState.put_all.Goals as goal

pub put-requires : goal.put-requires
put-requires c = c.loop-place.invariant.knows

pub loop-place-init : goal.loop-place-init
loop-place-init c = put_none c.args.self.now c.args.named.now c.requires

pub loop-place-preserved : goal.loop-place-preserved
loop-place-preserved c =
    let named : List ℕ = c.args.named.now in
    let n : ℕ = c.loop-place.place in
    let rest : drop n named ≡ slice_index named n ∷ drop (n + 1) named = drop-cons named n 0 c.loop-place-test.true ∙ ap (λ k. slice_index named n ∷ drop k named) (let one : suc n ≡ n + 1 = omega arith in one) in
    put_next c.args.self.now named c.loop-place.self (slice_index named n) (drop (n + 1) named) c.put.new.self
    (subst (IsPutting c.args.self.now named c.loop-place.self) rest c.loop-place.invariant) c.in_ok-put.ensures.puts

pub returns-clause-puts : goal.returns-clause-puts
returns-clause-puts c =
    let named : List ℕ = c.args.named.now in
    put_all c.args.self.now named c.loop-place.self (drop c.loop-place.place named)
    (nil_from_length (drop c.loop-place.place named) (length-drop c.loop-place.place named ∙ omega (arith, c.loop-place-test.false))) c.loop-place.invariant
