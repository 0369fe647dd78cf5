use Rattle.mount_scan.proofs.Listing.{AreThinned}
use Rattle.mount_scan.proofs.found_pages.FoundPages.keep_newest.Given as goal

abbrev pub invariant-loop-at : goal.invariant-loop-at
invariant-loop-at l = AreThinned l.fn.self.buckets.items l.self.buckets.items l.at
