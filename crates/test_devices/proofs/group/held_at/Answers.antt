use Rattle.std.proofs.Common.{arith, inl, inr}
use Rattle.test_devices.proofs.Held.{none_held, held_says, broken_held}
use Rattle.test_devices.proofs.group.held_at.Goals as goal

pub returns-in_default-clause-held : goal.returns-in_default-clause-held
returns-in_default-clause-held g c = λ honest s block page held.
    none_held _ _ _ c.args.block c.args.page (rw c.in_default.is at (c.in_ok-tag.ensures.tag honest)) s block page held

pub returns-then-tag-key-clause-held : goal.returns-then-tag-key-clause-held
returns-then-tag-key-clause-held g c = λ honest s block page held.
    let says = held_says _ _ _ c.args.block c.args.page c.in-Some.tag (rw c.in-Some.is at (c.in_ok-tag.ensures.tag honest)) s block page held in
    elim c.then-tag-key.either [
      | inl other ↦ other says.object
      | inr rest ↦ elim rest [ inl other ↦ other.1 says.chunk | inr before ↦ absurd (omega (arith, before.2, says.start)) ]
    ]

pub returns-else-whole-clause-held : goal.returns-else-whole-clause-held
returns-else-whole-clause-held g c = λ honest s block page held.
    broken_held _ _ c.tag_at.ensures.reads honest _ _ c.args.block c.args.page c.in-Some.tag c.in_ok-whole.whole
    (rw c.in-Some.is at (c.in_ok-tag.ensures.tag honest)) c.in_ok-whole.ensures.whole c.if-whole.false s block page held
