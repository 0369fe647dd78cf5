use Rattle.std.proofs.Common.{◌≡◌, ◌+◌, ◌*◌, ◌/◌, ◌%◌, ◌∙◌, Some, take, drop, sym, ap}
use Rattle.volume_terms.specs.Sizes.{page_slots}
use Rattle.pages.specs.State.{PagesState}
use Rattle.directories.proofs.InSlot.{reported_in_slot}
use Rattle.directories.proofs.lookup.find_in_slot.Goals as goal

pub returns-clause-reported : goal.returns-clause-reported
returns-clause-reported g c = λ sound z size.
    let old : PagesState = g.P.Pages.state c.args.pages.now in
    let page = c.page.result.now in
    let slots : c.page_bytes.result / 272 ≡ page_slots z = ap (λ n. n / 272) (c.page_bytes.ensures.bytes ∙ sym size) in
    let chunk : c.from.result ≡ c.args.place / page_slots z = c.from.ensures ∙ ap (λ n. c.args.place / n) slots in
    let is : old.present c.args.directory (1 + c.args.place / page_slots z) ≡ Some page = ap (λ n. old.present c.args.directory (1 + n)) (sym chunk) ∙ c.in_ok-load.ensures.page sound ∙ ap Some (sym c.page.ensures.bytes) in
    reported_in_slot z old.present c.args.directory c.args.place page is c.slot_of.result.now (c.slot_of.ensures.bytes ∙ ap (λ n. take 272 (drop (272 * (c.args.place % n)) page)) slots) c.args.name.now c.named_in.result c.named_in.ensures.reported
