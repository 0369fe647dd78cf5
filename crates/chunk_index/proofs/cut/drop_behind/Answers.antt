use Rattle.std.proofs.Common.{arith}
use Rattle.chunk_index.proofs.Dropping.{drops_none, drops_more, drops_all}
use Rattle.chunk_index.proofs.cut.drop_behind.Goals as goal

pub loop-at-init : goal.loop-at-init
loop-at-init c = drops_none c.args.first c.args.entries.now.items

pub loop-at-preserved : goal.loop-at-preserved
loop-at-preserved c = drops_more c.args.first c.args.entries.now.items c.loop-at.at _ c.index_mut.result.now _ c.loop-at.invariant (omega (arith, c.loop-at-test.true, c.len-at-end.ensures)) c.index_mut.ensures.value c.drop_present.ensures

pub returns : goal.returns
returns c = drops_all c.args.first c.args.entries.now.items c.loop-at.at _ c.loop-at.invariant (omega (arith, c.loop-at-test.false, c.len-at-end.ensures))
