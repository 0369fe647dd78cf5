use Rattle.std.proofs.Common.{sym, subst}
use Rattle.pages.specs.Maps.{has}
use Rattle.mounting.specs.TreeAnswers.{WhyNoTree, FailsTree, of_walk}
use Rattle.mounting.proofs.RootFaults.{wrong_root, root_fails, fails_still}
use Rattle.mounting.proofs.reasons.first_fault.Goals as goal

pub returns-in-Ok-clause-reason : goal.returns-in-Ok-clause-reason
returns-in-Ok-clause-reason g c = λ sound size below.
    subst (WhyNoTree c.args.geometry (has (g.P.Pages.state c.args.pages.now).present)) (sym c.root_fault.ensures) (below _ (c.in-Ok.ensures.volume sound size))

pub returns-in-Ok-clause-device : goal.returns-in-Ok-clause-device
returns-in-Ok-clause-device g c = λ why.
    subst (FailsTree (g.P.Pages.state c.root.new.pages)) (sym c.root_fault.ensures) (fails_still (of_walk c.args.below) _ _ c.root.ensures.lookups why)

pub returns-in-Err-clause-reason : goal.returns-in-Err-clause-reason
returns-in-Err-clause-reason g c = λ sound size below. wrong_root c.args.geometry (has (g.P.Pages.state c.args.pages.now).present) c.in-Err.fault (c.in-Err.ensures.fault sound size)

pub returns-in-Err-clause-device : goal.returns-in-Err-clause-device
returns-in-Err-clause-device g c = λ below. root_fails c.in-Err.fault (g.P.Pages.state c.args.pages.now) (g.P.Pages.state c.root.new.pages) c.in-Err.ensures.why
