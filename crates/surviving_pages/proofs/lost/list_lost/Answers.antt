use Rattle.std.proofs.Common.{◌≡◌, ◌∙◌, ap, subst, arith, Vec, Global}
use Rattle.surviving_pages.specs.declared.survivors.LostPlace.{LostPlace}
use Rattle.surviving_pages.proofs.LostPlaces.{AddsLostBefore, adds_one_more, adds_no_more, adds_lost}
use Rattle.surviving_pages.proofs.lost.list_lost.Goals as goal
use Rattle.surviving_pages.proofs.lost.list_lost.Goals.{then-is_none+in_ok-push, else-is_none}

pub loop-page-preserved : goal.loop-page-preserved
loop-page-preserved c = elim c.if-is_none.branch [
  | then-is_none+in_ok-push w ↦
      rw (ap (λ (v : Vec LostPlace Global). v.items) w.lost-is ∙ w.in_ok-push.ensures.items)
      (adds_one_more c.args.block c.loop-page.page _ c.args.tags.now c.end_of_tags-page-end.ensures.end c.loop-page-test.true (omega (arith, c.loop-page-test.true, c.end_of_tags-page-end.ensures.within)) _ _
      c.loop-page.invariant w.if-is_none.ensures)
  | else-is_none w ↦
      rw (ap (λ (v : Vec LostPlace Global). v.items) w.lost-is)
      (adds_no_more c.args.block c.loop-page.page _ c.args.tags.now c.end_of_tags-page-end.ensures.end c.loop-page-test.true (omega (arith, c.loop-page-test.true, c.end_of_tags-page-end.ensures.within)) _ _
      c.loop-page.invariant w.if-is_none.ensures)
]

pub returns : goal.returns
returns c =
    let end : c.loop-page.page ≡ c.end_of_tags-page-end.result = omega (arith, c.loop-page-test.false, c.loop-page.auto.page-end) in
    adds_lost c.args.block _ c.args.tags.now _ _ c.end_of_tags-page-end.ensures.end
    (subst (λ n. AddsLostBefore c.args.block c.args.tags.now n c.args.lost.now.items c.loop-page.lost.items) end c.loop-page.invariant)
