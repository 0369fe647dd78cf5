use Rattle.std.proofs.Common.{◌∙◌}
use Rattle.pages.specs.Maps.{after_change}
use Rattle.pages.specs.declared.change.Change.{Change}
use Rattle.paged_objects.proofs.Wholes.{first_there, others_there}
use Rattle.paged_objects.proofs.creation.new_object.Goals as goal

pub returns-clause-holds : goal.returns-clause-holds
returns-clause-holds g c = λ z m size other none.
    let change : Change = record { pages = c.in_ok-written.written; cuts = c.new.result } in
    let page = c.in_ok-page.page in
    let rest = others_there change m c.args.number page c.in_ok-written.ensures.items c.new.ensures.items c.in_ok-page.ensures.object c.in_ok-page.ensures.chunk in
    c.in_ok-page.ensures.holds z (after_change change m) size other (λ k some. rest k some ∙ none k)
    (first_there change m c.args.number page c.in_ok-written.ensures.items c.new.ensures.items c.in_ok-page.ensures.object c.in_ok-page.ensures.chunk)
