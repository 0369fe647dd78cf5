use Rattle.std.proofs.Common.{◌≡◌, sym, ◌∙◌, ap, subst}
use Rattle.std.specs.Prelude.{false}
use Rattle.nand_model.specs.Calls.{Device}
use Rattle.nand_model.specs.MemoryState.{device}
use Rattle.powercut.specs.Planning.{calls_since}
use Rattle.powercut.specs.Sessions.{IsEnded}
use Rattle.exerciser.proofs.Causes.{uncounted}
use Rattle.exerciser.proofs.Seeds.{counts}
use Rattle.exerciser.proofs.looking.count_calls.Goals as goal

pub returns-clause-totaled : goal.returns-clause-totaled
returns-clause-totaled c =
    let first = device c.args.nand.now in
    let last = device c.in_ok-last.last in
    let same = c.in_ok-copy.ensures.device in
    let ended = subst (λ (d : Device). IsEnded c.args.session.now c.in_ok-last.end d last) same c.in_ok-last.ensures.ended in
    let power : last.gone ≡ false = sym ended.cut ∙ ended.fuse c.requires in
    let calls : c.calls.result ≡ calls_since first last = c.calls.ensures ∙ c.in_ok-last.ensures.calls power ∙ ap (λ (d : Device). calls_since d last) same in
    counts c.in_ok-last.end c.calls.result last first c.args.session.now c.calls_of.result ended calls c.calls_of.ensures

pub returns-clause-fault : goal.returns-clause-fault
returns-clause-fault c =
    uncounted (device c.args.nand.now) (device c.in_ok-last.last) c.args.session.now c.calls.result c.in_ok-last.end c.calls_of.result
    (subst (λ (d : Device). IsEnded c.args.session.now c.in_ok-last.end d (device c.in_ok-last.last)) c.in_ok-copy.ensures.device c.in_ok-last.ensures.ended) c.calls_of.ensures
