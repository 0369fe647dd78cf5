use Rattle.std.proofs.Common.{arith}
use Rattle.mount_scan.proofs.Listing.{set_apart, thinned_more, thinned_latest, bucket_there}
use Rattle.mount_scan.proofs.found_pages.FoundPages.keep_newest.Goals as goal

pub invariant_of-self-clause-apart : goal.invariant_of-self-clause-apart
invariant_of-self-clause-apart c =
    let bs = c.loop-at.self.buckets.items in
    let at = bucket_there bs c.loop-at.at c.index_mut.result.now (omega (arith, c.loop-at-test.true, c.loop-at.self.count, c.loop-at.auto.at-end)) c.index_mut.ensures.value in
    set_apart bs c.loop-at.at c.index_mut.result.now c.keep_newest.new.self at c.loop-at.self.apart (λ f has. c.loop-at.self.apart c.loop-at.at c.index_mut.result.now f at (c.keep_newest.ensures.among f has))

pub loop-at-preserved : goal.loop-at-preserved
loop-at-preserved c =
    let bs = c.loop-at.self.buckets.items in
    let at = bucket_there bs c.loop-at.at c.index_mut.result.now (omega (arith, c.loop-at-test.true, c.loop-at.self.count, c.loop-at.auto.at-end)) c.index_mut.ensures.value in
    thinned_more _ bs c.loop-at.at c.index_mut.result.now c.keep_newest.new.self at c.keep_newest.ensures c.loop-at.invariant

pub returns : goal.returns
returns c = thinned_latest c.args.self.now.buckets.items c.loop-at.self.buckets.items c.loop-at.at (omega (arith, c.loop-at-test.false, c.args.self.now.count, c.loop-at.auto.at-end)) c.args.self.now.apart c.loop-at.invariant
