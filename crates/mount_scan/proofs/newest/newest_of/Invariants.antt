use Rattle.std.proofs.Common.{take}
use Rattle.mount_scan.specs.NewestMap.{AreLatestOf}
use Rattle.mount_scan.proofs.newest.newest_of.Given as goal

abbrev pub invariant-loop-page : goal.invariant-loop-page
invariant-loop-page l = AreLatestOf (take l.page-index l.pages) l.newest
