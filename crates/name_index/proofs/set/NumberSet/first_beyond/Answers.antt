use Rattle.std.proofs.Common.{sym}
use Rattle.name_index.proofs.Ranging.{before, before_of, in_order}
use Rattle.name_index.proofs.set.NumberSet.first_beyond.Goals as goal

pub returns : goal.returns
returns c =
    let facts = rw c.in_ok-run.ensures.steps at (c.range.ensures.in_range tt) in
    let within = facts.1 in (
      c.in_ok-run.field-0-0.now,
      c.in_ok-run.run'.now,
      within.1,
      before _ _ within.0.0,
      λ j lt some. in_order _ _ (facts.2 j (before_of _ _ lt, tt) some),
      sym c.first.ensures,
    )
