use Rattle.std.proofs.Common.{sym, subst}
use Rattle.std.proofs.lemmas.Result.{err_from_is_err_and}
use Rattle.nand_model.specs.Calls.{Device}
use Rattle.nand_model.specs.MemoryState.{device}
use Rattle.plain_volume.specs.Lists.{IsMadeOf}
use Rattle.posix_calls.specs.Volumes.{over_pages}
use Rattle.exerciser.specs.Causes.{HasTree, IsAnswered, IsTreeOn, WhyNotBegun}
use Rattle.exerciser.proofs.Causes.{begins_for, begins_unreported}
use Rattle.exerciser.proofs.Mounting.{has_tree, made_on}
use Rattle.exerciser.proofs.looking.begin.Goals as goal

pub returns-in-Err-clause-fault : goal.returns-in-Err-clause-fault
returns-in-Err-clause-fault c =
    subst (λ e. WhyNotBegun (device c.args.nand) e) (sym c.from.ensures)
    (begins_for (device c.args.nand) c.in-Err.fault (subst (λ (d : Device). IsAnswered d c.in-Err.fault) c.in_ok-copy.ensures.device c.in-Err.ensures.fault))

pub returns-in-Some-clause-tree : goal.returns-in-Some-clause-tree
returns-in-Some-clause-tree c =
    let made : IsMadeOf c.in_ok-reported-in-Ok.reported.list c.in-Some.tree = rw c.in-Some.is at c.in_ok-tree-in-Ok.ensures.made in
    subst (λ (d : Device). IsTreeOn d c.in-Some.tree) c.in_ok-copy.ensures.device
    (made_on _ over_pages (device c.in_ok-copy.copy) c.in-Ok.volume c.in-Ok.ensures.shows c.in_ok-reported-in-Ok.reported.list c.in_ok-reported-in-Ok.ensures.list c.in-Some.tree made)

pub returns-in_err-reported-in-Ok-clause-fault : goal.returns-in_err-reported-in-Ok-clause-fault
returns-in_err-reported-in-Ok-clause-fault c =
    let r = c.from_residual-in_err-reported-in-Ok in
    let p = err_from_is_err_and r.result r.ensures.1 in
    let tree = subst (λ (d : Device). HasTree d) c.in_ok-copy.ensures.device (has_tree _ over_pages (device c.in_ok-copy.copy) c.in-Ok.volume c.in-Ok.ensures.shows) in
    rw (p.1, p.2) (begins_unreported (device c.args.nand) c.in_err-reported-in-Ok.field-0.0 tree c.in_err-reported-in-Ok.ensures.fault)

pub returns-in_err-tree-in-Ok-clause-fault : goal.returns-in_err-tree-in-Ok-clause-fault
returns-in_err-tree-in-Ok-clause-fault c =
    let r = c.from_residual-in_err-tree-in-Ok in
    let p = err_from_is_err_and r.result r.ensures.1 in
    let tree = subst (λ (d : Device). HasTree d) c.in_ok-copy.ensures.device (has_tree _ over_pages (device c.in_ok-copy.copy) c.in-Ok.volume c.in-Ok.ensures.shows) in
    rw (p.1, p.2) (begins_unreported (device c.args.nand) c.in_err-tree-in-Ok.field-0.0 tree c.in_err-tree-in-Ok.ensures.fault)

pub returns-in-None-clause-fault : goal.returns-in-None-clause-fault
returns-in-None-clause-fault c =
    subst (λ (d : Device). HasTree d) c.in_ok-copy.ensures.device (has_tree _ over_pages (device c.in_ok-copy.copy) c.in-Ok.volume c.in-Ok.ensures.shows)
