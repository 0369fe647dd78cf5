use Rattle.std.proofs.Common.{◌≡◌, ◌+◌, ◌*◌, ◌/◌, ◌%◌, ◌∙◌, Some, take, drop, sym, ap, subst}
use Rattle.volume_terms.specs.Sizes.{page_slots}
use Rattle.pages.specs.Maps.{PageMap}
use Rattle.pages.specs.State.{PagesState}
use Rattle.directories.proofs.removal.slot_bytes.Goals as goal

pub returns-clause-reported : goal.returns-clause-reported
returns-clause-reported g c = λ sound z size.
    let old : PagesState = g.P.Pages.state c.args.pages.now in
    let m : PageMap = old.present in
    let slots : c.page_bytes.result / 272 ≡ page_slots z = ap (λ n. n / 272) (c.page_bytes.ensures.bytes ∙ sym size) in
    let there : m c.args.directory (1 + c.from.result) ≡ Some c.page.result.now = c.in_ok-load.ensures.page sound ∙ ap Some (sym c.page.ensures.bytes) in (
      c.page.result.now,
      subst (λ n. m c.args.directory (1 + n) ≡ Some c.page.result.now) (c.from.ensures ∙ ap (λ n. c.args.number / n) slots) there,
      c.copy_from_slice.ensures.after ∙ c.slot_of.ensures.bytes ∙ ap (λ n. take 272 (drop (272 * (c.args.number % n)) c.page.result.now)) slots,
    )
