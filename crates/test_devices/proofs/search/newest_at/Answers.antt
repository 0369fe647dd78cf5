use Rattle.std.proofs.Common.{refl}
use Rattle.std.proofs.lemmas.Bool.{false≢true}
use Rattle.test_devices.proofs.Best.{best_past_page, best_taken, best_stays}
use Rattle.test_devices.proofs.search.newest_at.Goals as goal

pub returns-in_default-clause-best : goal.returns-in_default-clause-best
returns-in_default-clause-best g c = λ honest is.
    best_past_page _ _ _ c.args.block c.args.page c.args.best (rw c.in_default.is at (c.in_ok-found.ensures.held honest)) is

pub returns-then-is_better-clause-best : goal.returns-then-is_better-clause-best
returns-then-is_better-clause-best g c = λ honest is.
    let held = rw c.in-Some.is at (c.in_ok-found.ensures.held honest) in
    best_taken _ _ _ c.args.block c.args.page c.args.best c.in-Some.found held.0 held.1 held.2 (c.if-is_better.ensures.0 refl) is

pub returns-else-is_better-clause-best : goal.returns-else-is_better-clause-best
returns-else-is_better-clause-best g c = λ honest is.
    let held = rw c.in-Some.is at (c.in_ok-found.ensures.held honest) in
    best_stays _ _ _ c.args.block c.args.page c.args.best c.in-Some.found held.0 held.1 held.2 (λ better. false≢true (c.if-is_better.ensures.1 better)) is
