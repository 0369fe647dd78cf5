use Rattle.std.proofs.Common.{subst, sym, ap, arith}
use Rattle.nand_model.specs.declared.count.Count.{Count}
use Rattle.pages.specs.Stores.{GoesOn}
use Rattle.volume_tests.specs.Refusing.{refusing}
use Rattle.volume_tests.proofs.Refusing.{goes_on, goes_nowhere}
use Rattle.volume_tests.proofs.store.RefusingPagesPageStore.apply.Goals as goal

pub returns-then-refuses-clause-goes_on : goal.returns-then-refuses-clause-goes_on
returns-then-refuses-clause-goes_on g c =
    let was = c.args.self.now in
    let is = c.refuses.new.self in
    subst (λ x. GoesOn (refusing was.refused.total (g.P.Pages.state was.inner)) (refusing is.refused.total (g.P.Pages.state x))) (sym c.refuses.ensures.inner)
    (goes_nowhere was.refused.total is.refused.total (g.P.Pages.state was.inner) (omega (arith, c.refuses.ensures.refuses c.if-refuses.true)))

pub returns-clause-goes_on : goal.returns-clause-goes_on
returns-clause-goes_on g c =
    let was = c.args.self.now in
    let is = c.refuses.new.self in
    goes_on was.refused.total is.refused.total (g.P.Pages.state was.inner) (g.P.Pages.state c.apply.new.self) (let same = ap (λ (t : Count). t.total) (c.refuses.ensures.counts c.if-refuses.false) in omega (arith, same))
    (subst (λ x. GoesOn (g.P.Pages.state x) (g.P.Pages.state c.apply.new.self)) c.refuses.ensures.inner c.apply.ensures.goes_on)
