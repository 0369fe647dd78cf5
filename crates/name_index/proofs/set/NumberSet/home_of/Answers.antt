use Rattle.std.proofs.Common.{refl}
use Rattle.name_index.proofs.Ranging.{in_order, in_order_of, not_less}
use Rattle.name_index.proofs.set.NumberSet.home_of.Goals as goal

pub returns : goal.returns
returns c =
    let facts = c.range.ensures.in_range tt in
    let within = facts.3 _ _ c.in_ok-at.ensures.steps in
    let greatest = facts.4 _ _ c.in_ok-at.ensures.steps in (
      (rw within.1 refl, in_order _ _ within.0.1, λ k le some. not_less _ _ (greatest k (tt, in_order_of _ _ le) some)),
      (c.in_ok-at.run'.now, within.1, c.standing.ensures),
    )
