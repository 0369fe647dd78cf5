use Rattle.std.proofs.Common.{◌≡◌, ◌<◌, ℕ, length, sym, ◌∙◌, subst, arith}
use Rattle.std.specs.Prelude.{◌↔◌}
use Rattle.surviving_pages.specs.Tagged.{IsTaggedBetween, IsEndOfTags}
use Rattle.surviving_pages.proofs.Tagged.{end_here, end_before, end_within}
use Rattle.surviving_pages.proofs.block.end_of_tags.Goals as goal
use Rattle.surviving_pages.proofs.block.end_of_tags.Goals.{then-is_some, else-is_some}

pub returns : goal.returns
returns c =
    let tags = c.args.tags.now in
    let all : c.loop-page.page ≡ length tags = omega (arith, c.loop-page-test.false, c.loop-page.auto.page-end) in
    let end : IsEndOfTags tags c.loop-page.end = subst (λ n. (p : ℕ) → p < c.loop-page.end ↔ IsTaggedBetween tags p n) all c.loop-page.invariant in
    record { end = end; within = end_within tags c.loop-page.end end }

pub loop-page-preserved : goal.loop-page-preserved
loop-page-preserved c = elim c.if-is_some.branch [
  | then-is_some w ↦ end_here c.args.tags.now c.loop-page.page c.if-is_some.end c.loop-page-test.true (sym c.is_some.ensures ∙ w.if-is_some.true) w.end-is
  | else-is_some w ↦ end_before c.args.tags.now c.loop-page.page c.loop-page.end c.if-is_some.end c.loop-page-test.true (sym c.is_some.ensures ∙ w.if-is_some.false) w.end-is c.loop-page.invariant
]
