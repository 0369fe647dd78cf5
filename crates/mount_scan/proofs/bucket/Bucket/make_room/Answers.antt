use Rattle.std.proofs.Common.{sym, subst}
use Rattle.mount_scan.specs.Keys.{Thins}
use Rattle.mount_scan.proofs.Thinning.{thins_none}
use Rattle.mount_scan.proofs.bucket.Bucket.make_room.Goals as goal

pub returns-then-len-capacity : goal.returns-then-len-capacity
returns-then-len-capacity c = thins_none _

pub returns : goal.returns
returns c = subst (Thins _ _) (sym c.grow.ensures) c.thin_out.ensures
