use Rattle.std.proofs.Common.{◌≡◌, ◌∙◌, List, [], length, sym, ap, subst, arith, rules}
use Rattle.std.specs.Vec.Iter.{into_iter_items}
use Rattle.std.proofs.lemmas.List.{nil_from_length}
use Rattle.pages.specs.Changes.{IsPutBehind}
use Rattle.flash_tree.specs.declared.place.FreshPage.{FreshPage}
use Rattle.pages.specs.declared.change.Cut.{Cut}
use Rattle.pages.proofs.Folding.{Folding, folding_starts, folding_goes, folding_shows, folding_shares}
use Rattle.pages.proofs.change.Change.then.Goals as goal

pub loop-page-init : goal.loop-page-init
loop-page-init c = record {
  folds = subst (Folding c.args.next.cuts.items c.args.next.pages.items c.args.self.pages.items c.args.next.pages.items) (sym (c.into_iter-page-iterator.ensures.into_iter_gives).0) (folding_starts c.args.next.cuts.items c.args.next.pages.items c.args.self.pages.items);
  len = search rules;
}

pub loop-page-preserved : goal.loop-page-preserved
loop-page-preserved c =
    let step = rw c.in-Some.is at c.next.ensures.steps in
    let folds = subst (λ (xs : List FreshPage). Folding c.args.next.cuts.items c.args.next.pages.items c.args.self.pages.items c.loop-page.pages.items xs) step.0 c.loop-page.invariant.folds in
    let put = subst (λ (xs : List Cut). IsPutBehind c.loop-page.pages.items xs c.in-Some.page c.put_behind.new.pages.items) c.deref.ensures.value c.in_ok-put_behind.ensures in
    record {
      folds = folding_goes c.args.next.cuts.items c.args.next.pages.items c.args.self.pages.items c.loop-page.pages.items c.put_behind.new.pages.items c.in-Some.page (into_iter_items c.next.new.self) folds put;
      len = omega (arith, step.1, ap length step.0, c.loop-page.invariant.len);
    }

pub returns-clause-pages : goal.returns-clause-pages
returns-clause-pages c = λ m o k.
    let gone = rw c.in-None.is at c.next.ensures.steps in
    let none : into_iter_items c.loop-page.page-iterator ≡ [] = nil_from_length _ (sym c.loop-page.invariant.len ∙ gone.0) in
    folding_shows c.args.next.cuts.items c.args.next.pages.items c.args.self.pages.items c.loop-page.pages.items (into_iter_items c.loop-page.page-iterator) c.loop-page.invariant.folds none
    c.args.self.cuts.items c.append.new.self.items c.in_ok-append.ensures.items m o k

pub returns-clause-shared : goal.returns-clause-shared
returns-clause-shared c = λ o k i j a b.
    let gone = rw c.in-None.is at c.next.ensures.steps in
    let none : into_iter_items c.loop-page.page-iterator ≡ [] = nil_from_length _ (sym c.loop-page.invariant.len ∙ gone.0) in
    folding_shares c.args.next.cuts.items c.args.next.pages.items c.args.self.pages.items c.loop-page.pages.items (into_iter_items c.loop-page.page-iterator) c.loop-page.invariant.folds none o k i j a b
