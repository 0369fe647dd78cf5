use Rattle.std.proofs.Common.{None, IfOk, ◌≡◌, subst}
use Rattle.exerciser.specs.Keeping.{IsDurable}
use Rattle.exerciser.specs.declared.seen.Seen.TheVariants as seens
use Rattle.exerciser.proofs.Following.{ok_then, some_then, committed_listed, made_shown}
use Rattle.exerciser.proofs.looking.compare.Goals as goal

pub returns-clause-tree : goal.returns-clause-tree
returns-clause-tree g c = ok_then _ _ c.judge.result
    (λ seen. some_then _ _ _ (made_shown g.V.Answers.shows g.met.V.Answers.sound c.args.volume.now c.in_ok-reported.reported.list c.in_ok-reported.ensures.list))
    c.judge.ensures.tree

pub returns-clause-torn : goal.returns-clause-torn
returns-clause-torn g c =
    subst (λ items. IfOk c.judge.result (λ seen. seen ≡ seens.Torn None → IsDurable g.V.Answers.shows c.args.volume.now c.args.before.now c.args.script.now items None)) c.deref.ensures.value
    (ok_then _ _ c.judge.result
    (λ seen torn is. committed_listed g.V.Answers.shows g.met.V.Answers.sound c.args.volume.now c.in_ok-reported.reported.list c.in_ok-reported.ensures.list
    c.args.before.now c.args.script.now c.deref.result.now None (torn is) tt)
    c.judge.ensures.torn)
