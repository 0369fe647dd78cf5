use Rattle.std.proofs.Common.{◌≡◌, ◌<◌, ◌∙◌, ℕ, Some, slice_get, sym, ap, subst, inl, inr, arith}
use Rattle.std.proofs.lemmas.Bool.{cases_eq}
use Rattle.std.proofs.lemmas.Option.{slice_get-get_or, slice_get_within}
use Rattle.tree_walk.specs.Walks.{HasAgain, HasHead}
use Rattle.tree_walk.proofs.walking.WalkState.directory_again.Goals as goal

pub returns-then-is_directory_again-clause-is : goal.returns-then-is_directory_again-clause-is
returns-then-is_directory_again-clause-is c =
    let list = c.args.self.now.objects.items in
    let object : ℕ = c.index-object.result.now in
    let at : slice_get list c.loop-place.place ≡ Some object = slice_get-get_or list c.loop-place.place object (omega (arith, c.loop-place-test.true, c.len-place-end.ensures)) ∙ ap Some (sym c.index-object.ensures) in
    let d = c.is_directory_again.ensures.is c.if-is_directory_again.true in
    record { known = (c.loop-place.place, at); again = d.1; head = d.0; has = d.2; kind = d.3 }

pub loop-place-preserved : goal.loop-place-preserved
loop-place-preserved c = λ i o head lt is has there kind.
    let list = c.args.self.now.objects.items in
    let object : ℕ = c.index-object.result.now in
    let at : slice_get list c.loop-place.place ≡ Some object = slice_get-get_or list c.loop-place.place object (omega (arith, c.loop-place-test.true, c.len-place-end.ensures)) ∙ ap Some (sym c.index-object.ensures) in
    elim (cases_eq i c.loop-place.place) [
      | inl same ↦
          let two : Some o ≡ Some object = sym is ∙ ap (slice_get list) same ∙ at in
          let one : o ≡ object = cc in
          c.is_directory_again.ensures.not c.if-is_directory_again.false head (subst (HasAgain c.args.self.now) one has) (subst (λ k. HasHead c.args.self.now k head) one there) kind
      | inr ne ↦ c.loop-place.invariant i o head (omega (arith, lt, ne)) is has there kind
    ]

pub returns-clause-not : goal.returns-clause-not
returns-clause-not c = λ o d.
    let list = c.args.self.now.objects.items in
    let within : d.known.0 < c.loop-place.place = omega (arith, slice_get_within list d.known.0 o d.known.1, c.loop-place-test.false, c.len-place-end.ensures) in
    c.loop-place.invariant d.known.0 o d.head within d.known.1 d.again d.has d.kind
