use Rattle.std.proofs.Common.{arith}
use Rattle.page_store.proofs.Totaled.{new_more}
use Rattle.page_store.proofs.buffering.count_new.Goals as goal

pub loop-page-preserved : goal.loop-page-preserved
loop-page-preserved c = record {
  count = omega (arith, c.loop-page.invariant.count, c.lacking-count.ensures.value, new_more c.args.index.now c.args.pages.now c.loop-page.page-index c.page-item.result c.loop-page-test.true c.page-item.is);
  within_limit = omega (arith, c.loop-page.invariant.within_limit, c.lacking-count.ensures.within_limit);
}
