use Rattle.std.proofs.Common.{IfOk, subst}
use Rattle.exerciser.specs.Keeping.{IsDurable}
use Rattle.exerciser.proofs.Following.{ok_of, committed_listed}
use Rattle.exerciser.proofs.keeping.committed.Goals as goal

pub returns-clause-least : goal.returns-clause-least
returns-clause-least g c = subst (λ items. IfOk c.least_committed.result (IsDurable g.V.Answers.shows c.args.volume.now c.args.before.now c.args.script.now items)) c.deref.ensures.value
    (ok_of _ _ _ c.least_committed.result
    (committed_listed g.V.Answers.shows g.met.V.Answers.sound c.args.volume.now c.in_ok-list.list (λ z read_only s shown. (c.in_ok-list.ensures z read_only s shown).0)
    c.args.before.now c.args.script.now c.deref.result.now)
    c.least_committed.ensures.least c.least_committed.ensures.shows)
