use Rattle.std.proofs.Common.{◌∙◌, List, slice_get, sym, ap}
use Rattle.flash_tree.specs.declared.place.FreshPage.{FreshPage}
use Rattle.pages.specs.State.{PagesState}
use Rattle.pages.specs.declared.change.Change.{Change}
use Rattle.paged_objects.proofs.Sensible.{none_of_others}
use Rattle.paged_objects.proofs.planning.plan.Goals as goal

pub returns-else-are_of_trees-clause-fault : goal.returns-else-are_of_trees-clause-fault
returns-else-are_of_trees-clause-fault g c = λ z objects n can make is.
    let p : PagesState = g.P.Pages.state c.args.pages.now in
    let planned : Change = c.in_ok-planned.planned in
    let at = c.are_of_trees.ensures.not c.if-are_of_trees.false in
    none_of_others z p.present objects can c.args.change.now make planned c.in_ok-planned.ensures.change.apart (c.in_ok-planned.ensures.makes z objects n make is)
    at.0 at.1 (ap (λ (xs : List FreshPage). slice_get xs at.0) (sym c.deref.ensures.value) ∙ at.2) at.3
