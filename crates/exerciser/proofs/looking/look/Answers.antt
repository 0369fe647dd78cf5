use Rattle.std.proofs.Common.{IfOk, subst}
use Rattle.std.specs.Prelude.{IfErr}
use Rattle.nand_model.specs.Calls.{Device}
use Rattle.nand_model.specs.MemoryState.{device}
use Rattle.posix_calls.specs.Volumes.{over_pages}
use Rattle.exerciser.specs.Causes.{IsAnswered, MountsAs, WhyUnseen}
use Rattle.exerciser.proofs.Causes.{seen_as, seen_failed, fails_reading, fails_reporting}
use Rattle.exerciser.proofs.Following.{ok_of_all, some_then}
use Rattle.exerciser.proofs.Mounting.{has_tree, seen_on, torn_on, tree_on}
use Rattle.exerciser.proofs.looking.look.Goals as goal

pub returns-in-Err : goal.returns-in-Err
returns-in-Err c =
    let reported = c.seen_of.ensures in
    record {
      seen = seen_as c.args.tree.now c.args.script.now c.args.end.now.replies.items c.in-Err.fault c.seen_of.result reported.seen;
      mounts = seen_failed (device c.args.nand.now) c.args.tree.now c.args.script.now c.args.end.now.replies.items c.in-Err.fault c.seen_of.result (subst (λ (d : Device). IsAnswered d c.in-Err.fault) c.in_ok-copy.ensures.device c.in-Err.ensures.fault) reported.seen;
      fault = fails_reading (device c.args.nand.now) c.seen_of.result reported.fault;
    }

pub returns-in-Ok-clause-mounts : goal.returns-in-Ok-clause-mounts
returns-in-Ok-clause-mounts c =
    let before = c.args.tree.now in
    let commands = c.args.script.now in
    let reported = c.args.end.now.replies.items in
    let d = device c.in_ok-copy.copy in
    let on = c.in-Ok.ensures.shows in
    subst (λ (d : Device). IfOk c.compare.result (MountsAs d before commands reported)) c.in_ok-copy.ensures.device
    (ok_of_all _ _ _ _ c.compare.result
    (λ seen tree torn mounted. seen_on d before commands reported seen (some_then _ _ _ (tree_on _ over_pages d c.in-Ok.volume on) tree) (λ is. torn_on _ over_pages d c.in-Ok.volume on before commands reported (torn is)) mounted)
    c.compare.ensures.tree c.compare.ensures.torn c.compare.ensures.mounted)

pub returns-in-Ok-clause-fault : goal.returns-in-Ok-clause-fault
returns-in-Ok-clause-fault c = subst (λ (d : Device). IfErr c.compare.result (WhyUnseen d)) c.in_ok-copy.ensures.device
    (fails_reporting (device c.in_ok-copy.copy) c.compare.result (has_tree _ over_pages (device c.in_ok-copy.copy) c.in-Ok.volume c.in-Ok.ensures.shows) c.compare.ensures.fault)
