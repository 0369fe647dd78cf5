use Rattle.std.proofs.Common.{refl}
use Rattle.name_index.proofs.Ranging.{in_order, in_order_of, not_less}
use Rattle.name_index.proofs.Running.{next_of_last}
use Rattle.name_index.proofs.set.NumberSet.next_within.Goals as goal

pub returns : goal.returns
returns c =
    let facts = c.range.ensures.in_range tt in
    let within = facts.3 _ _ c.in_ok-run.ensures.steps in
    let greatest = facts.4 _ _ c.in_ok-run.ensures.steps in
    next_of_last c.args.self.now.runs c.args.self.now.tiled c.args.from c.in_ok-run.field-0-0.now
    (rw within.1 refl, in_order _ _ within.0.1, λ k le some. not_less _ _ (greatest k (tt, in_order_of _ _ le) some)) c.in_ok-run.run'.now within.1 c.next_from.result c.next_from.ensures
