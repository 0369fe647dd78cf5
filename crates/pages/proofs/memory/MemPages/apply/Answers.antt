use Rattle.std.proofs.Common.{◌∙◌, List, refl, sym, ap}
use Rattle.pages.specs.laws.Changes.{pages_same, cuts_nothing, changed_same}
use Rattle.pages.specs.Maps.{with_pages, without_cuts, no_pages}
use Rattle.pages.specs.declared.change.Cut.{Cut}
use Rattle.pages.proofs.memory.MemPages.apply.Goals as goal

pub invariant_of-result-clause-sized : goal.invariant_of-result-clause-sized
invariant_of-result-clause-sized c = c.in_ok-both.ensures.size c.args.self.page_bytes c.args.self.sized c.requires

pub returns-clause-pages : goal.returns-clause-pages
returns-clause-pages c = λ o k.
    pages_same c.in_ok-both.both.pages.items no_pages (without_cuts c.in_ok-both.both.cuts.items no_pages) o k (sym (cuts_nothing c.in_ok-both.both.cuts.items no_pages o k refl))
    ∙ c.in_ok-both.ensures.pages no_pages o k
    ∙ changed_same c.args.change _ _ o k (ap (λ (xs : List Cut). with_pages c.args.self.pages.items (without_cuts xs no_pages) o k) c.new.ensures.items)
