use Rattle.mount_scan.proofs.Listing.{none_listed}
use Rattle.mount_scan.proofs.found_pages.FoundPages.new.Goals as goal

pub returns : goal.returns
returns c = none_listed _ c.loop-bucket.invariant.none
