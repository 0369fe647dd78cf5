use Rattle.std.proofs.Common.{arith}
use Rattle.mount_scan.proofs.Listing.{set_apart, added_apart, ok_thins, bucket_there}
use Rattle.mount_scan.proofs.found_pages.FoundPages.add.Goals as goal

pub invariant_of-self-clause-apart : goal.invariant_of-self-clause-apart
invariant_of-self-clause-apart c =
    let bs = c.args.self.now.buckets.items in
    let at = bucket_there bs c.bucket_of.result c.index_mut.result.now (omega (arith, c.bucket_of.ensures.within, c.args.self.now.count)) c.index_mut.ensures.value in
    set_apart bs c.bucket_of.result c.index_mut.result.now c.add.new.self at c.args.self.now.apart
    (added_apart bs c.bucket_of.result c.index_mut.result.now c.add.new.self c.args.found at c.bucket_of.ensures.bucket c.add.ensures.among c.args.self.now.apart)

pub returns : goal.returns
returns c =
    let bs = c.args.self.now.buckets.items in
    let at = bucket_there bs c.bucket_of.result c.index_mut.result.now (omega (arith, c.bucket_of.ensures.within, c.args.self.now.count)) c.index_mut.ensures.value in
    ok_thins c.add.result bs c.bucket_of.result c.index_mut.result.now c.add.new.self c.args.found at c.add.ensures.added
