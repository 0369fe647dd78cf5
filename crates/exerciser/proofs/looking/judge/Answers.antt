use Rattle.std.proofs.Common.{Some}
use Rattle.plain_volume.specs.Lists.{IsMadeOf, shown_of}
use Rattle.exerciser.proofs.Following.{least_listed}
use Rattle.exerciser.proofs.looking.judge.Goals as goal

pub returns-in-Some-Some-clause-seen : goal.returns-in-Some-Some-clause-seen
returns-in-Some-Some-clause-seen c =
    let made : IsMadeOf c.args.list.now c.in-Some-Some.tree = rw c.in-Some-Some.is-1 at c.requires in
    let least = c.in_ok-found.ensures.least in
    let shows = c.in_ok-found.ensures.shows in
    least_listed c.args.before.now c.args.script.now c.args.replies.now c.args.list.now c.in-Some-Some.tree.sizes (shown_of c.in-Some-Some.tree) made.shows made.listed
    (Some c.in-Some-Some.count) (rw c.in-Some-Some.is-0 at least) (rw c.in-Some-Some.is-0 at shows)
