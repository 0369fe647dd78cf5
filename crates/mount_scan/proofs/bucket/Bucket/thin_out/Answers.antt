use Rattle.mount_scan.proofs.Thinning.{thins_latest}
use Rattle.mount_scan.proofs.bucket.Bucket.thin_out.Goals as goal

pub returns-then-count-min : goal.returns-then-count-min
returns-then-count-min c = thins_latest _ _ c.keep_newest.ensures
