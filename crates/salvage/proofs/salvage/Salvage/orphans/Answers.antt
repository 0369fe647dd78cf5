use Rattle.std.proofs.Common.{sym, subst}
use Rattle.pages.specs.State.{PagesState}
use Rattle.salvage.specs.Headers.{HasHeaders, Rises}
use Rattle.salvage.specs.StateOf.{state}
use Rattle.salvage.proofs.salvage.Salvage.orphans.Goals as goal

pub returns-clause-orphans : goal.returns-clause-orphans
returns-clause-orphans g c = λ z is.
    let self = c.args.self.now in
    let old : PagesState = state self in
    let same = sym c.deref.ensures.value in
    c.find_orphans.ensures.orphans z is (subst (HasHeaders old.present) same self.listed) (subst Rises same self.rises)
