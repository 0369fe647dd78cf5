use Rattle.std.proofs.Common.{arith}
use Rattle.chunk_index.proofs.Finding.{same_element}
use Rattle.chunk_index.proofs.Following.{none_more, next_here, next_none}
use Rattle.chunk_index.proofs.object.ObjectEntries.next_chunk.Goals as goal

pub returns-in-Some : goal.returns-in-Some
returns-in-Some c =
    let entries = c.args.self.now in
    next_here entries.entries.items entries.rises c.args.after c.start_after-at.result c.start_after-at.ensures c.loop-at.at c.loop-at.invariant c.unpack-entry.result c.in-Some.page c.loop-at.auto.at (omega (arith, c.loop-at-test.true, c.len-at-end.ensures)) (same_element _ c.loop-at.at _ _ c.unpack-entry.ensures.entry c.index.ensures) c.in-Some.is

pub loop-at-preserved : goal.loop-at-preserved
loop-at-preserved c = none_more c.args.self.now.entries.items c.start_after-at.result c.loop-at.at c.unpack-entry.result c.loop-at.invariant (omega (arith, c.loop-at-test.true, c.len-at-end.ensures)) (same_element _ c.loop-at.at _ _ c.unpack-entry.ensures.entry c.index.ensures) c.in_default.is

pub returns : goal.returns
returns c =
    let entries = c.args.self.now in
    next_none entries.entries.items entries.rises c.args.after c.start_after-at.result c.start_after-at.ensures c.loop-at.at c.loop-at.invariant (omega (arith, c.loop-at-test.false, c.len-at-end.ensures))
