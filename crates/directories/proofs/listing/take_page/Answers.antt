use Rattle.std.proofs.Common.{◌≡◌, ◌≤◌, ◌<◌, ◌+◌, ◌*◌, ◌∙◌, ℕ, length, sym, subst, arith}
use Rattle.std.proofs.lemmas.Result.{err_from_is_err_and}
use Rattle.flash_tree.specs.Tree.{IsPageSize}
use Rattle.volume_terms.specs.Sizes.{page_slots}
use Rattle.volume_terms.specs.laws.List.{slice_get_there}
use Rattle.volume_terms.specs.laws.Rounding.{slots_fit}
use Rattle.directories.specs.Listings.{ReadsFirst}
use Rattle.directories.proofs.Listed.{one_more_read, next_is_new}
use Rattle.directories.proofs.Searching.{slot_of_page, slot_in_page}
use Rattle.directories.proofs.listing.take_page.Goals as goal

pub returns-in_err-take_entry-clause-why : goal.returns-in_err-take_entry-clause-why
returns-in_err-take_entry-clause-why c = λ new.
    let p = err_from_is_err_and c.from_residual.result c.from_residual.ensures.1 in
    rw (p.1, p.2) (c.in_err-take_entry.ensures.why new)

pub returns-in_err-take_entry-clause-fault : goal.returns-in_err-take_entry-clause-fault
returns-in_err-take_entry-clause-fault c = λ new z m d moment all r at size within first.
    let page = c.args.page.now in
    let place : ℕ = c.loop-place.place in
    let n : ℕ = c.args.chunk * page_slots z + place in
    let fits : c.args.count ≤ page_slots z = slots_fit z.page_bytes (length page) c.args.count size c.requires.room in
    let less : place < c.args.count = c.loop-place-test.true in
    let low : n < length r.slots = omega (arith, within, less) in
    let psize : IsPageSize z.page_bytes = record { least = omega (arith, size, c.requires.room, less); most = omega (arith, size, c.requires.within_limit) } in
    let s = slice_get_there r.slots n low in
    let slot = r.each n s.0 s.1 in
    let here = slot_in_page z m d c.args.chunk place s.0 page (omega (arith, less, fits)) at slot in
    let absent = next_is_new z psize m d moment all r n c.loop-place.entries (c.loop-place.invariant z m d at size first) low s.0 slot in
    let p = err_from_is_err_and c.from_residual.result c.from_residual.ensures.1 in
    rw (p.1, p.2) (c.in_err-take_entry.ensures.fault new s.0 here.0 (c.slot_of.ensures.bytes ∙ here.1) absent)

pub loop-place-preserved : goal.loop-place-preserved
loop-place-preserved c = λ z m d at size first.
    let page = c.args.page.now in
    let place : ℕ = c.loop-place.place in
    let n : ℕ = c.args.chunk * page_slots z + place in
    let fits : c.args.count ≤ page_slots z = slots_fit z.page_bytes (length page) c.args.count size c.requires.room in
    let less : place < c.args.count = c.loop-place-test.true in
    let reported = c.in_ok-take_entry.ensures.reported in
    let slot = slot_of_page z m d c.args.chunk place reported.0 page (omega (arith, less, fits)) at (reported.1, sym c.slot_of.ensures.bytes ∙ reported.2) in
    let more = one_more_read z m d n c.loop-place.entries (c.loop-place.invariant z m d at size first) reported.0 slot reported.3.was_new in
    let index : n + 1 ≡ c.args.chunk * page_slots z + (place + 1) = omega arith in
    subst (λ k. ReadsFirst z m d k c.take_entry.new.entries) index (subst (ReadsFirst z m d (n + 1)) (sym reported.3.put) more)
