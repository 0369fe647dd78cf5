use Rattle.std.proofs.Common.{◌≡◌, ◌≤◌, ◌/◌, ◌∙◌, ℕ, sym, ap, arith}
use Rattle.std.proofs.lemmas.Result.{err_from_is_err_and}
use Rattle.volume_terms.specs.Sizes.{page_slots}
use Rattle.pages.specs.Maps.{PageMap}
use Rattle.pages.specs.State.{PagesState}
use Rattle.directories.proofs.Written.{cut_change_is, only_cut, loses_cut, only_behind}
use Rattle.directories.proofs.removal.remove_slot.Goals as goal

pub returns-in_err-change-clause-fault : goal.returns-in_err-change-clause-fault
returns-in_err-change-clause-fault g c = λ sound z size are.
    let p = err_from_is_err_and c.from_residual.result c.from_residual.ensures.1 in
    rw (p.1, p.2) (c.in_err-change.ensures.fault sound z size are)

pub returns-clause-change : goal.returns-clause-change
returns-clause-change g c = cut_change_is c.in_ok-change.change c.in_ok-cut.cut _ 2 c.in_ok-cut.ensures.pages c.in_ok-change.ensures.change.few

pub returns-clause-only : goal.returns-clause-only
returns-clause-only g c = only_cut c.args.directory _ _ c.in_ok-change.change c.in_ok-cut.cut c.in_ok-cut.ensures.pages c.in_ok-cut.ensures.cuts c.in_ok-change.ensures.change.only

pub returns-clause-removes : goal.returns-clause-removes
returns-clause-removes g c = λ sound z size.
    let old : PagesState = g.P.Pages.state c.args.pages.now in
    let m : PageMap = old.present in
    let n : ℕ = c.page_bytes.result / 272 in
    let slots : n ≡ page_slots z = ap (λ k. k / 272) (c.page_bytes.ensures.bytes ∙ sym size) in
    let some : 1 ≤ n = omega (arith, c.page_bytes.ensures.least) in
    loses_cut z m c.args.directory c.args.shorter c.in_ok-change.change c.in_ok-cut.cut c.in_ok-cut.ensures.pages c.in_ok-change.ensures.change.uncut n slots some c.in_ok-cut.ensures.cuts c.args.place
    (c.in_ok-change.ensures.shortens sound z size)

pub returns-clause-besides : goal.returns-clause-besides
returns-clause-besides g c = λ sound z size only.
    let old : PagesState = g.P.Pages.state c.args.pages.now in
    let m : PageMap = old.present in
    let n : ℕ = c.page_bytes.result / 272 in
    let slots : n ≡ page_slots z = ap (λ k. k / 272) (c.page_bytes.ensures.bytes ∙ sym size) in
    let some : 1 ≤ n = omega (arith, c.page_bytes.ensures.least) in
    only_behind z m c.args.directory c.args.shorter.length c.in_ok-change.change c.in_ok-cut.cut c.in_ok-cut.ensures.pages c.in_ok-change.ensures.change.uncut n slots some c.in_ok-cut.ensures.cuts
    (λ k. c.in_ok-change.ensures.pages sound z size k) only
