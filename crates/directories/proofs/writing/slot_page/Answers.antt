use Rattle.std.proofs.Common.{◌≡◌, ◌≤◌, ◌+◌, ◌-◌, ◌*◌, ◌/◌, ◌%◌, ◌++◌, ◌∙◌, ℕ, List, Some, min, get_or, take, drop, replicate, refl, sym, ap, subst, length, arith, rules}
use Rattle.std.proofs.lemmas.List.{with_items_is, places}
use Rattle.std.proofs.lemmas.Result.{err_from_is_err_and}
use Rattle.std.specs.Vec.{with_items}
use Rattle.volume_terms.specs.Sizes.{page_slots}
use Rattle.pages.specs.Maps.{PageMap}
use Rattle.pages.specs.State.{PagesState}
use Rattle.flash_tree.specs.declared.place.FreshPage.{FreshPage}
use Rattle.directories.specs.Slots.{SlotAt}
use Rattle.directories.specs.declared.writing.Writing.{Writing}
use Rattle.directories.proofs.Written.{beside_there, page_made, page_there}
use Rattle.directories.proofs.writing.slot_page.Goals as goal

pub returns-in_err-bytes-clause-fault : goal.returns-in_err-bytes-clause-fault
returns-in_err-bytes-clause-fault g c = λ sound z size are.
    let old : PagesState = g.P.Pages.state c.args.pages.now in
    let writing : Writing = c.args.writing in
    let n : ℕ = c.page_bytes.result / 272 in
    let slots : n ≡ page_slots z = ap (λ k. k / 272) (c.page_bytes.ensures.bytes ∙ sym size) in
    let some : 1 ≤ n = omega (arith, c.page_bytes.ensures.least) in
    let count_is : c.min-count.result ≡ min (min writing.before writing.afterwards - c.args.number / n * n) n = search rules in
    let p = err_from_is_err_and c.from_residual.result c.from_residual.ensures.1 in
    rw (p.1, p.2) (c.in_err-bytes.ensures.fault sound (λ ne.
    let there = page_there z old.present c.args.directory c.args.number writing.before n slots some (grind (arith, count_is, ne)) are in
    (there.0, subst (λ k. old.present c.args.directory (1 + k) ≡ Some there.0) (sym c.from.ensures) there.1)))

pub returns-clause-page : goal.returns-clause-page
returns-clause-page g c = λ sound z size.
    let old : PagesState = g.P.Pages.state c.args.pages.now in
    let m : PageMap = old.present in
    let writing : Writing = c.args.writing in
    let made = c.in_ok-bytes.ensures.page sound in
    let n : ℕ = c.page_bytes.result / 272 in
    let slots : n ≡ page_slots z = ap (λ k. k / 272) (c.page_bytes.ensures.bytes ∙ sym size) in
    let some : 1 ≤ n = omega (arith, c.page_bytes.ensures.least) in
    let count_is : c.min-count.result ≡ min (min writing.before writing.afterwards - c.args.number / n * n) n = search rules in
    let was : List ℕ = c.deref_mut.result.now in
    let same : was ≡ c.in_ok-bytes.bytes.items = c.deref_mut.ensures.value in
    let len : length was ≡ old.page_bytes = ap length same ∙ c.in_ok-bytes.ensures.size in
    let page : FreshPage = record { key = record { object = c.args.directory; chunk = 1 + c.from.result }; bytes = with_items c.in_ok-bytes.bytes c.put_slots.new.page } in
    let items : page.bytes.items ≡ c.put_slots.new.page = with_items_is c.in_ok-bytes.bytes c.put_slots.new.page (search (rules, places)) in
    let room : 272 * n ≤ length was = omega (arith, len, c.page_bytes.ensures.bytes) in
    page_made (record { sizes = z; pages = m; object = c.args.directory }) writing page n c.args.number c.min-count.result was made.0 slots some room count_is refl
    (ap (λ k. 1 + k) c.from.ensures)
    (ap length items ∙ c.put_slots.ensures.size ∙ len ∙ sym size)
    (λ ne. subst (λ k. m c.args.directory (1 + k) ≡ Some made.0) c.from.ensures (made.1 ne))
    made.2
    (same ∙ made.3 ∙ ap (λ k. take (272 * c.min-count.result) made.0 ++ replicate (k - 272 * c.min-count.result) 0) (sym len))
    (λ k e w at. subst (λ (xs : List ℕ). SlotAt xs (k % n) e) (sym items) (c.put_slots.ensures.written k e w at))
    (λ k other within. ap (λ (xs : List ℕ). take 272 (drop (272 * k) xs)) items ∙ c.put_slots.ensures.others k other within)
    (λ j le. ap (λ (xs : List ℕ). get_or xs j 0) items ∙ c.put_slots.ensures.past j le)

pub returns-clause-beside : goal.returns-clause-beside
returns-clause-beside g c = λ sound z size.
    let old : PagesState = g.P.Pages.state c.args.pages.now in
    let writing : Writing = c.args.writing in
    let made = c.in_ok-bytes.ensures.page sound in
    let n : ℕ = c.page_bytes.result / 272 in
    let stay : ℕ = min writing.before writing.afterwards in
    let slots : n ≡ page_slots z = ap (λ k. k / 272) (c.page_bytes.ensures.bytes ∙ sym size) in
    let some : 1 ≤ n = omega (arith, c.page_bytes.ensures.least) in
    let count_is : c.min-count.result ≡ min (stay - c.args.number / n * n) n = search rules in
    beside_there z old.present c.args.directory c.args.number stay n c.min-count.result made.0 slots some count_is
    (λ ne. subst (λ k. old.present c.args.directory (1 + k) ≡ Some made.0) c.from.ensures (made.1 ne))
