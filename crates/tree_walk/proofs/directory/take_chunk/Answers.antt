use Rattle.std.proofs.Common.{◌≡◌, ◌≤◌, ◌+◌, ◌∙◌, None, Some, refl, sym, ap, subst, arith}
use Rattle.volume_terms.specs.Sizes.{page_slots}
use Rattle.volume_terms.specs.laws.Rounding.{slots_fit}
use Rattle.pages.specs.State.{PagesState}
use Rattle.flash_tree.specs.declared.place.Key.{Key}
use Rattle.tree_walk.specs.SlotLists.{BreaksUpTo}
use Rattle.tree_walk.specs.Faults.{ReportsWrong}
use Rattle.tree_walk.proofs.SlotSteps.{no_page}
use Rattle.tree_walk.proofs.directory.take_chunk.Goals as goal

pub returns-in-Present-clause-fault : goal.returns-in-Present-clause-fault
returns-in-Present-clause-fault g c = λ sound z size some first.
    let old : PagesState = g.P.Pages.state c.args.pages.now in
    let found = rw c.in-Present.is at c.in_ok-find.ensures.page sound in
    let at = c.args.at in
    let page : old.present at.directory (1 + at.number) ≡ Some c.page.result.now =
    subst (λ (k : Key). old.present k.object k.chunk ≡ Some c.page.result.now) c.key.ensures.key (found ∙ ap Some (sym c.page.ensures.bytes)) in
    c.take_page.ensures.fault (g.P.Pages.state c.find.new.self) z old.present page (size ∙ sym c.find.ensures.lookups.page_bytes ∙ sym c.page.ensures.size) first

pub returns-in-Present-clause-why : goal.returns-in-Present-clause-why
returns-in-Present-clause-why g c = c.take_page.ensures.why (g.P.Pages.state c.find.new.self)

pub returns-in-Absent-clause-fault : goal.returns-in-Absent-clause-fault
returns-in-Absent-clause-fault g c = λ sound z size some first.
    let old : PagesState = g.P.Pages.state c.args.pages.now in
    let at = c.args.at in
    let absent : old.present at.directory (1 + at.number) ≡ None = subst (λ (k : Key). old.present k.object k.chunk ≡ None) c.key.ensures.key (rw c.in-Absent.is at c.in_ok-find.ensures.page sound) in
    let fits : c.args.count ≤ page_slots z = slots_fit z.page_bytes old.page_bytes c.args.count size c.requires.room in
    subst (ReportsWrong (BreaksUpTo z old.present at c.args.count) (g.P.Pages.state c.find.new.self)) (sym c.breaks.ensures.broken)
    (λ total within. (refl, no_page z old.present at.directory at.number total (omega (arith, fits, some)) (omega (arith, within, some)) absent))
