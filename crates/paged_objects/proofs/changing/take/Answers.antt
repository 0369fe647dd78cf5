use Rattle.std.proofs.lemmas.Result.{on_ok_weaker}
use Rattle.pages.specs.Maps.{after_change}
use Rattle.pages.specs.State.{PagesState}
use Rattle.paged_objects.specs.laws.Going.{goes_here}
use Rattle.paged_objects.proofs.Ends.{took}
use Rattle.paged_objects.proofs.changing.take.Goals as goal

pub returns-then-len-most_pages-clause-goes_on : goal.returns-then-len-most_pages-clause-goes_on
returns-then-len-most_pages-clause-goes_on g c = goes_here (g.P.Pages.state c.args.pages.now)

pub returns-clause-present : goal.returns-clause-present
returns-clause-present g c = λ sound. on_ok_weaker c.apply.result (λ is. is.present) (c.apply.ensures.makes sound)

pub returns-clause-makes : goal.returns-clause-makes
returns-clause-makes g c = λ z old new has within_limit holds.
    let p : PagesState = g.P.Pages.state c.args.pages.now in
    let e = c.apply.ensures in
    took z p (g.P.Pages.state c.apply.new.self) old new (after_change c.args.planned p.present) c.apply.result has holds e.goes_on (on_ok_weaker c.apply.result (λ is _. is.sound) (e.makes has.represents.sound))
    (on_ok_weaker c.apply.result (λ is. is.present) (e.makes has.represents.sound)) (e.committed has.represents.sound) e.refused (e.fault has.represents.sound)
