use Rattle.std.proofs.Common.{refl}
use Rattle.name_index.proofs.Ranging.{in_order, in_order_of, not_less}
use Rattle.name_index.proofs.Running.{only_here}
use Rattle.name_index.proofs.set.NumberSet.removal_of.Goals as goal

pub returns : goal.returns
returns c =
    let facts = c.range.ensures.in_range tt in
    let within = facts.3 _ _ c.in_ok-at.ensures.steps in
    let greatest = facts.4 _ _ c.in_ok-at.ensures.steps in
    let is = c.is_only.ensures in (
      (rw within.1 refl, in_order _ _ within.0.1, λ k le some. not_less _ _ (greatest k (tt, in_order_of _ _ le) some)),
      (λ t. (c.in_ok-at.run'.now, within.1, (is.0 t).0, (is.0 t).1), λ o. is.1 (only_here c.args.self.now.runs c.in_ok-at.at.now c.args.number c.in_ok-at.run'.now within.1 o)),
    )
