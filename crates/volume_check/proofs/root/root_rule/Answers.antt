use Rattle.std.proofs.Common.{◌≡◌, ◌∙◌, Some, IfNone, sym, ap, subst}
use Rattle.pages.specs.State.{PagesState}
use Rattle.volume_terms.specs.Sizes.{root_number}
use Rattle.volume_check.specs.Found.{IsRootOn}
use Rattle.volume_check.proofs.Roots.{root_there}
use Rattle.volume_check.proofs.root.root_rule.Goals as goal

pub returns-in-Ok-Present-clause-none : goal.returns-in-Ok-Present-clause-none
returns-in-Ok-Present-clause-none g c = λ seen.
    let old : PagesState = g.P.Pages.state c.args.pages.now in
    let found = rw c.in-Ok-Present.field-0-is at c.in-Ok-Present.ensures.page seen.sound in
    let page : old.present root_number 0 ≡ Some c.page.result.now = found ∙ ap Some (sym c.page.ensures.bytes) in
    root_there c.args.geometry old.present c.page.result.now page (seen.size ∙ sym c.find.ensures.lookups.page_bytes ∙ sym c.page.ensures.size) c.header_rule.result
    (subst (λ b. IfNone c.header_rule.result (IsRootOn c.page.result.now b)) c.blocks-in-Ok-Present.ensures c.header_rule.ensures.none)
