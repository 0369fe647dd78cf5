use Rattle.std.proofs.Common.{◌≡◌, ◌≤◌, ◌+◌, ◌*◌, ◌∙◌, Some, length, sym, ap, subst, arith}
use Rattle.std.proofs.lemmas.Result.{err_from_is_err_and}
use Rattle.volume_terms.specs.Sizes.{page_slots}
use Rattle.volume_terms.specs.laws.Rounding.{slots_fit}
use Rattle.pages.specs.laws.Faults.{lacks_memory}
use Rattle.pages.specs.State.{PagesState}
use Rattle.directories.specs.Directories.{SlotOf}
use Rattle.directories.proofs.Reading.{slots_are}
use Rattle.directories.proofs.Searching.{page_of_slots, slots_among}
use Rattle.directories.proofs.listing.take_chunk.Goals as goal

pub returns-in_err-load-clause-fault : goal.returns-in_err-load-clause-fault
returns-in_err-load-clause-fault g c = λ z moment all d some within first.
    let old : PagesState = g.P.Pages.state c.args.pages.now in
    let fits : c.args.count ≤ page_slots z = slots_fit z.page_bytes old.page_bytes c.args.count d.size c.requires in
    let are = slots_among (SlotOf z old.present c.args.directory) (c.args.chunk * page_slots z) (c.args.chunk * page_slots z + c.args.count) (length d.reads.slots) within (slots_are old z c.args.directory moment all d) in
    let there = page_of_slots z old.present c.args.directory c.args.chunk c.args.count some (omega (arith, fits, some)) are in
    let p = err_from_is_err_and c.from_residual.result c.from_residual.ensures.1 in
    rw (p.1, p.2) (lacks_memory (g.P.Pages.state c.args.pages.now) (g.P.Pages.state c.load.new.pages) _ (c.in_err-load.ensures.fault d.sound there.0 (subst (λ n. old.present c.args.directory (1 + n) ≡ Some there.0) (sym c.from.ensures) there.1)))

pub returns-clause-why : goal.returns-clause-why
returns-clause-why g c = c.take_page.ensures.why (g.P.Pages.state c.load.new.pages)

pub returns-clause-fault : goal.returns-clause-fault
returns-clause-fault g c = λ z moment all d some within first.
    let old : PagesState = g.P.Pages.state c.args.pages.now in
    let page : old.present c.args.directory (1 + c.args.chunk) ≡ Some c.page.result.now = subst (λ n. old.present c.args.directory (1 + n) ≡ Some c.page.result.now) c.from.ensures
    (c.in_ok-load.ensures.page d.sound ∙ ap Some (sym c.page.ensures.bytes)) in
    c.take_page.ensures.fault (g.P.Pages.state c.load.new.pages) z old.present c.args.directory moment all d.reads page (d.size ∙ sym c.load.ensures.lookups.page_bytes ∙ sym c.page.ensures.size) within first
