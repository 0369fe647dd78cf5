use Rattle.std.proofs.Common.{◌≡◌, ◌∙◌, List, ℕ, Some, refl, sym, ap, subst, inl, inr}
use Rattle.pages.specs.Maps.{has}
use Rattle.pages.specs.State.{PagesState}
use Rattle.tree_walk.specs.Broken.{StopsAt}
use Rattle.tree_walk.specs.Heads.{IsNoHeader}
use Rattle.tree_walk.proofs.Reporting.{result_reports_as, result_reports_why}
use Rattle.tree_walk.proofs.head.read_head.Goals as goal

pub returns-in-Present-clause-stops : goal.returns-in-Present-clause-stops
returns-in-Present-clause-stops g c = λ sound z size.
    let old : PagesState = g.P.Pages.state c.args.pages.now in
    let new : PagesState = g.P.Pages.state c.find.new.self in
    let page : List ℕ = c.page.result.now in
    let found = rw c.in-Present.is at c.in_ok-find.ensures.page sound in
    let there : old.present c.args.object 0 ≡ Some page = found ∙ ap Some (sym c.page.ensures.bytes) in
    result_reports_as (IsNoHeader page c.args.object) (StopsAt z (has old.present) c.args.object)
    (λ broken n. subst (StopsAt z (has old.present) c.args.object) (sym n.2) (refl, (refl, (page, there, n.1)), inr (inl (n.0, (page, there, n.1), refl)))) new
    c.decode_head.result (c.decode_head.ensures.fault new)

pub returns-in-Present-clause-why : goal.returns-in-Present-clause-why
returns-in-Present-clause-why g c =
    result_reports_why (IsNoHeader c.page.result.now c.args.object) (g.P.Pages.state c.find.new.self) c.decode_head.result (c.decode_head.ensures.fault (g.P.Pages.state c.find.new.self))
