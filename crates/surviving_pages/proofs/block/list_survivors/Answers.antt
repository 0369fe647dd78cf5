use Rattle.std.proofs.Common.{◌≡◌, length, subst, arith}
use Rattle.surviving_pages.specs.Tagged.{ListsSurvivors}
use Rattle.surviving_pages.proofs.Tagged.{lists_more}
use Rattle.surviving_pages.proofs.block.list_survivors.Goals as goal

pub loop-page-preserved : goal.loop-page-preserved
loop-page-preserved c = lists_more c.args.block c.loop-page.page c.args.tags.now _ _ c.in_ok-add_survivor.ensures c.loop-page.invariant

pub returns : goal.returns
returns c =
    let tags = c.args.tags.now in
    let all : c.loop-page.page ≡ length tags = omega (arith, c.loop-page-test.false, c.loop-page.auto.page-end) in
    subst (λ n. ListsSurvivors c.args.block tags n c.loop-page.survivors.items) all c.loop-page.invariant
