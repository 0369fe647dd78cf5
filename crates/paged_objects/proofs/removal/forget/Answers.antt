use Rattle.std.proofs.Common.{◌≡◌, ◌∙◌, List, [], ◌∷◌, ◌++◌, refl, ap}
use Rattle.pages.specs.declared.change.Change.{Change}
use Rattle.pages.specs.declared.change.Cut.{Cut}
use Rattle.paged_objects.proofs.Wholes.{holds_without, only_one_cut}
use Rattle.paged_objects.proofs.removal.forget.Goals as goal

pub returns-clause-only : goal.returns-clause-only
returns-clause-only c =
    let change : Change = record { pages = c.new.result; cuts = c.push.new.self } in
    let cut : Cut = record { object = c.args.number; from = 0 } in
    let cuts : c.push.new.self.items ≡ cut ∷ [] = c.in_ok-push.ensures.items ∙ ap (λ (xs : List Cut). xs ++ cut ∷ []) c.new-cuts.ensures.items in
    only_one_cut change cut c.new.ensures.items cuts

pub returns-clause-forgets : goal.returns-clause-forgets
returns-clause-forgets c = λ z m objects holds.
    let change : Change = record { pages = c.new.result; cuts = c.push.new.self } in
    let cut : Cut = record { object = c.args.number; from = 0 } in
    let cuts : c.push.new.self.items ≡ cut ∷ [] = c.in_ok-push.ensures.items ∙ ap (λ (xs : List Cut). xs ++ cut ∷ []) c.new-cuts.ensures.items in
    holds_without change c.args.number (only_one_cut change cut c.new.ensures.items cuts) c.new.ensures.items cut cuts refl refl z m objects holds
