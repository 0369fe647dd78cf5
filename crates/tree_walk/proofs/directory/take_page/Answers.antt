use Rattle.std.proofs.Common.{◌≡◌, ◌≤◌, ◌<◌, ◌+◌, ◌*◌, ◌∙◌, ℕ, length, sym, subst, arith}
use Rattle.std.proofs.lemmas.Result.{err_from_is_err_and}
use Rattle.volume_terms.specs.Sizes.{page_slots}
use Rattle.volume_terms.specs.laws.Rounding.{slots_fit}
use Rattle.tree_walk.specs.SlotLists.{BreaksUpTo, HasSlots, TakesNone}
use Rattle.tree_walk.proofs.SlotSteps.{one_more, slot_of_page, taken_none}
use Rattle.tree_walk.proofs.Reporting.{reports_as, reports_why}
use Rattle.tree_walk.proofs.directory.take_page.Goals as goal

pub returns-in_err-take_entry-clause-fault : goal.returns-in_err-take_entry-clause-fault
returns-in_err-take_entry-clause-fault c = λ new z m there size first.
    let page = c.args.page.now in
    let place : ℕ = c.loop-place.place in
    let less : place < c.args.count = c.loop-place-test.true in
    let fits : c.args.count ≤ page_slots z = slots_fit z.page_bytes (length page) c.args.count size c.requires.room in
    let at = c.args.at in
    let h = c.loop-place.invariant z m there size first in
    let p = err_from_is_err_and c.from_residual.result c.from_residual.ensures.1 in
    rw (p.1, p.2) (reports_as (TakesNone c.slot_of.result.now at place c.loop-place.seen) (BreaksUpTo z m at c.args.count)
    (λ broken none total within. taken_none z m at place page total c.loop-place.seen (omega (arith, less, fits)) (omega (arith, less, within)) there h c.slot_of.result.now c.slot_of.ensures.bytes broken none)
    new _ (c.in_err-take_entry.ensures.fault new))

pub returns-in_err-take_entry-clause-why : goal.returns-in_err-take_entry-clause-why
returns-in_err-take_entry-clause-why c = λ new.
    let p = err_from_is_err_and c.from_residual.result c.from_residual.ensures.1 in
    rw (p.1, p.2) (reports_why (TakesNone c.slot_of.result.now c.args.at c.loop-place.place c.loop-place.seen) new _ (c.in_err-take_entry.ensures.fault new))

pub loop-place-preserved : goal.loop-place-preserved
loop-place-preserved c = λ z m there size first.
    let page = c.args.page.now in
    let place : ℕ = c.loop-place.place in
    let at = c.args.at in
    let n : ℕ = at.number * page_slots z + place in
    let less : place < c.args.count = c.loop-place-test.true in
    let fits : c.args.count ≤ page_slots z = slots_fit z.page_bytes (length page) c.args.count size c.requires.room in
    let reported = c.in_ok-take_entry.ensures.reported in
    let slot = slot_of_page z m at.directory at.number place reported.0 page (omega (arith, less, fits)) there reported.1 (sym c.slot_of.ensures.bytes ∙ reported.2) in
    let more = one_more z m at.directory n c.loop-place.seen (c.loop-place.invariant z m there size first) reported.0 slot c.take_entry.new.seen reported.3 in
    let index : n + 1 ≡ at.number * page_slots z + (place + 1) = omega arith in
    subst (λ k. HasSlots z m at.directory k c.take_entry.new.seen) index more
